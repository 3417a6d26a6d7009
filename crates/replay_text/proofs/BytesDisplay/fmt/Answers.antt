-- What is printed is the text that the bytes are, or nothing.
use Rattle.std.proofs.Common.{◌≡◌, [], ℕ, true, false, List, Result, Ok, Err, Bor, refl, sym, subst, ap, ◌∙◌, if◌then◌else◌}
use Rattle.std.specs.Result.{MatchResult, result_unwrap_or}
use Rattle.std.specs.Str.{IsUtf8, is_utf8}
use Rattle.std.proofs.lemmas.Str.{IsUtf8-from_is_utf8, is_utf8-from_IsUtf8}
use Rattle.replay_text.specs.declared.Bytes.{Bytes}
use Rattle.replay_text.specs.Held.{held, shown}
use Rattle.replay_text.proofs.BytesDisplay.fmt.Goals as goal

intact : {n : ℕ} (b : Bytes n) → is_utf8 (held b) ≡ true → shown b ≡ held b
intact b is = ap (λ t. if t then held b else []) is

broken : {n : ℕ} (b : Bytes n) → ¬ (IsUtf8 (held b)) → shown b ≡ []
broken b not_text = elim (is_utf8 (held b)) as (λ t. is_utf8 (held b) ≡ t → (if t then held b else []) ≡ []) [ true ↦ λ is. absurd (not_text (IsUtf8-from_is_utf8 _ is)) | false ↦ λ _. refl ] refl

-- what `from_utf8` makes of the bytes
read : {n : ℕ} {E : Type 0} (b : Bytes n) (bytes : List ℕ) (r : Result (Bor (List ℕ)) E) (none : Bor (List ℕ)) (P : E → Type 0) → bytes ≡ held b → none.now ≡ []
    → MatchResult r (λ s. (s.now ≡ bytes) × IsUtf8 bytes) (λ e. ¬ (IsUtf8 bytes) × P e) → (result_unwrap_or r none).now ≡ shown b
read b bytes (Ok s) none P is empty h = h.0 ∙ is ∙ sym (intact b (is_utf8-from_IsUtf8 _ (subst IsUtf8 is h.1)))
read b bytes (Err e) none P is empty h = empty ∙ sym (broken b (λ k. h.0 (subst IsUtf8 (sym is) k)))

pub returns-clause-writes : goal.returns-clause-writes
returns-clause-writes g c =
    let e : c.unwrap_or.result.now ≡ shown c.args.self.now =
    ap (λ (s : Bor (List ℕ)). s.now) c.unwrap_or.ensures ∙ read c.args.self.now _ c.from_utf8.result _ _ c.as_bytes.ensures.value refl c.from_utf8.ensures.cases
    in rw (← e) c.pad.ensures.writes
