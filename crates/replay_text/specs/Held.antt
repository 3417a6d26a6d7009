-- What bytes in place hold.
use Rattle.std.specs.Prelude.{ℕ, List, [], take, if◌then◌else◌}
use Rattle.std.specs.Str.{is_utf8}
use Rattle.replay_text.specs.declared.Bytes.{Bytes}

-- the bytes put so far
abbrev pub held : {n : ℕ} → Bytes n → List ℕ
held b = take b.len b.bytes

-- the same as text; where they are no UTF-8, none
abbrev pub shown : {n : ℕ} → Bytes n → List ℕ
shown b = if is_utf8 (held b) then held b else []
