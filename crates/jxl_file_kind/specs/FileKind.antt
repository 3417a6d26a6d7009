-- The kind of a file, by its signature.
use Rattle.std.specs.Prelude.{List, ℕ}
use Rattle.jxl_signatures.specs.Signature.{signature_of}
use Rattle.jxl_signatures.specs.declared.Signature.{Signature}
use Rattle.jxl_signatures.specs.declared.Signature.TheVariants as G
use Rattle.jxl_record.specs.declared.BitstreamKind.{BitstreamKind}
use Rattle.jxl_record.specs.declared.BitstreamKind.TheVariants as K

-- the kind that a signature tells: none yet where the bytes are too few
abbrev pub kind_by : Signature → BitstreamKind
kind_by G.Bare = K.BareCodestream
kind_by G.Container = K.Container
kind_by G.TooShort = K.Unknown
kind_by G.Neither = K.Invalid

abbrev pub kind_of_file : List ℕ → BitstreamKind
kind_of_file s = kind_by (signature_of s)
