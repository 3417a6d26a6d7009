-- The first step of a new parser tells the kind by the signature, and the kind is a container's where the file starts with the 12 bytes.
use mathlib.Core.Path.{◌≡◌, refl, ap, sym, subst, ◌∙◌}
use mathlib.Core.Bool.{Bool, true, false}
use mathlib.Core.List.{List, [], ◌∷◌}
use Prim.Native.Nat.{ℕ, zero, suc, ◌<◌}
use native.Mathlib.Omega.{arith}
use lib.ListN.{length, take}
use lib.Dec.{eqb}
use borrow.Author.Tests.{eqb-true}
use Rattle.jxl_headers.specs.Bytes.{if, and, or, starts}
use Rattle.jxl_signatures.specs.Signature.{codestream_sig, container_sig, signature_of}
use Rattle.jxl_signatures.specs.declared.Signature.{Signature}
use Rattle.jxl_signatures.specs.declared.Signature.TheVariants as G
use Rattle.jxl_record.specs.Record as Record
use Rattle.jxl_record.specs.declared.BitstreamKind.{BitstreamKind}
use Rattle.jxl_record.specs.declared.BitstreamKind.TheVariants as K
use Rattle.jxl_record.specs.declared.JxlpIndexState.TheVariants.{Initial}
use Rattle.jxl_record.specs.declared.BoxParser.{BoxParser}
use Rattle.jxl_grammar.specs.Step as Boxes
use Rattle.jxl_totals.specs.declared.ContainerParser.{ContainerParser}
use Rattle.jxl_totals.specs.Naming.{Numbered, numbered}
use Rattle.jxl_totals.specs.Step.{shows, wants, refuses, limit, fresh, kind_of, beyond, counting, step_of}
use Rattle.jxl_feed.specs.Fed.{told_fed}
use Rattle.jxl_feed.specs.declared.Fed.{Fed}
use Rattle.jxl_feed.specs.declared.Fed.TheVariants as A
use Rattle.jxl_file_kind.specs.FileKind.{kind_by, kind_of_file}

-- the parser that a step leaves
abbrev next_of : Numbered → ContainerParser
next_of (shows e p n) = p
next_of (wants p n) = p
next_of (refuses w p n) = p

left_there : (f : Fed) (q : ContainerParser) → next_of (told_fed f q) ≡ q
left_there (A.Shown e n) q = refl
left_there (A.Want n) q = refl
left_there (A.Refused r n) q = refl
left_there (A.Closed n) q = refl

-- the one that the rules on boxes leave, whose kind is the same, also where the limit is met
abbrev next_boxes : Boxes.Told → BoxParser
next_boxes (shows e p n) = p
next_boxes (wants p n) = p
next_boxes (refuses w p n) = p

same_kind : (more : Bool) (p : ContainerParser) (t : Boxes.Told) → kind_of (next_of (numbered (counting more p t))) ≡ Record.kind_of (next_boxes t)
same_kind more p (shows e q n) = refl
same_kind true p (wants q n) = refl
same_kind false p (wants q n) = refl
same_kind more p (refuses r q n) = refl

by_signature : (g : Signature) → Record.kind_of (next_boxes (Boxes.signature_step Initial g)) ≡ kind_by g
by_signature G.Bare = refl
by_signature G.Container = refl
by_signature G.TooShort = refl
by_signature G.Neither = refl

by_boxes : (s : List ℕ) → Record.kind_of (next_boxes (Boxes.step_of Record.fresh s)) ≡ kind_of_file s
unfolding Boxes.step_of signature_of
by_boxes [] = refl
by_boxes (x ∷ xs) = by_signature (signature_of (x ∷ xs))

-- whether a file starts with a signature, or a signature with it, is told by more first bytes than the signature has
starts_first : (p s : List ℕ) (n : ℕ) → length p < n → starts p (take n s) ≡ starts p s
starts_first p s zero h = absurd (omega arith)
starts_first [] s (suc n) h = refl
starts_first (x ∷ p) [] (suc n) h = refl
starts_first (x ∷ p) (y ∷ s) (suc n) h = ap (and (eqb x y)) (starts_first p s n (omega arith))

first_starts : (p s : List ℕ) (n : ℕ) → length p < n → starts (take n s) p ≡ starts s p
first_starts p s zero h = absurd (omega arith)
first_starts p [] (suc n) h = refl
first_starts [] (y ∷ s) (suc n) h = refl
first_starts (x ∷ p) (y ∷ s) (suc n) h = ap (and (eqb y x)) (first_starts p s n (omega arith))

-- and so its signature; the limit of a file hides nothing of it
signature_first : (s : List ℕ) (n : ℕ) → 12 < n → signature_of (take n s) ≡ signature_of s
unfolding signature_of
signature_first s n h =
    let bare = starts_first codestream_sig s n (omega arith) in
    let box = starts_first container_sig s n (omega arith) in
    let few = first_starts codestream_sig s n (omega arith) in
    let fewer = first_starts container_sig s n (omega arith) in
    λ i. if (bare i) G.Bare (if (box i) G.Container (if (or (few i) (fewer i)) G.TooShort G.Neither))

first_kind : (s : List ℕ) → kind_of (next_of (numbered (step_of fresh s))) ≡ kind_of_file s
unfolding step_of
first_kind s = same_kind (beyond fresh s) fresh (Boxes.step_of Record.fresh (take limit s)) ∙ by_boxes (take limit s) ∙ ap kind_by (signature_first s limit (omega arith))

pub kind_after : (f : Fed) (q : ContainerParser) (s : List ℕ) → told_fed f q ≡ numbered (step_of fresh s) → kind_of q ≡ kind_of_file s
kind_after f q s told = ap kind_of (sym (left_there f q) ∙ ap next_of told) ∙ first_kind s

-- what `is_container` answers of a kind
abbrev pub boxed : BitstreamKind → Bool
boxed K.Unknown = false
boxed K.BareCodestream = false
boxed K.Container = true
boxed K.Invalid = false

first_holds : (a b : Bool) → and a b ≡ true → a ≡ true
first_holds true b h = refl
first_holds false b h = h

-- no file starts with both signatures
not_both : (s : List ℕ) → starts codestream_sig s ≡ true → starts container_sig s ≡ false
not_both [] h = refl
not_both (x ∷ xs) h = subst (λ (y : ℕ). starts container_sig (y ∷ xs) ≡ false) (eqb-true 0xff x (first_holds _ _ h)) refl

by_tests : (bare box few : Bool) → (bare ≡ true → box ≡ false) → boxed (kind_by (if bare G.Bare (if box G.Container (if few G.TooShort G.Neither)))) ≡ box
by_tests true box few h = sym (h refl)
by_tests false true few h = refl
by_tests false false true h = refl
by_tests false false false h = refl

pub boxed_file : (s : List ℕ) → boxed (kind_of_file s) ≡ starts container_sig s
unfolding signature_of
boxed_file s = by_tests (starts codestream_sig s) (starts container_sig s) (or (starts s codestream_sig) (starts s container_sig)) (not_both s)

-- so each kind tells whether the file starts so
pub told_container : (s : List ℕ) → K.Container ≡ kind_of_file s → true ≡ starts container_sig s
told_container s k = ap boxed k ∙ boxed_file s

pub told_bare : (s : List ℕ) → K.BareCodestream ≡ kind_of_file s → false ≡ starts container_sig s
told_bare s k = ap boxed k ∙ boxed_file s

pub told_invalid : (s : List ℕ) → K.Invalid ≡ kind_of_file s → false ≡ starts container_sig s
told_invalid s k = ap boxed k ∙ boxed_file s

pub told_unknown : (s : List ℕ) → K.Unknown ≡ kind_of_file s → false ≡ starts container_sig s
told_unknown s k = ap boxed k ∙ boxed_file s
