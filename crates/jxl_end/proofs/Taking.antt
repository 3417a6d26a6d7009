-- A state of a parser that still takes bytes: the end comes to what the rules on boxes say.
use mathlib.Core.Path.{◌≡◌, refl}
use mathlib.Core.Logic.{inl, inr}
use mathlib.Core.List.{List, [], ◌∷◌}
use Prim.Native.Nat.{ℕ}
use native.Mathlib.Omega.{arith}
use types.Run.{OneOf}
use denote.Enum.Declared.{tag_of}
use Rattle.jxl_record.specs.declared.DetectState.{DetectState}
use Rattle.jxl_record.specs.declared.DetectState.TheVariants as S
use Rattle.jxl_record.specs.contracts.DetectState as States
use Rattle.jxl_grammar.specs.End.{close_of}
use Rattle.jxl_endings.specs.End.{closing, end_in}
use Rattle.jxl_totals.specs.declared.ContainerParser.{ContainerParser}

pub not_refused : (s : DetectState) (p : ContainerParser) (u : List ℕ) → OneOf (0 ∷ 1 ∷ 2 ∷ 3 ∷ 4 ∷ 5 ∷ []) (tag_of States.the_type s)
    → end_in s p u ≡ closing p (close_of p.boxes u)
not_refused S.WaitingSignature p u o = refl
not_refused S.WaitingBoxHeader p u o = refl
not_refused (S.WaitingJxlpIndex l) p u o = refl
not_refused (S.WaitingInnerType l) p u o = refl
not_refused (S.InAuxBox t l) p u o = refl
not_refused (S.InCodestream k l pending) p u o = refl
not_refused (S.Refused k r) p u o =
    elim o [ inl x ↦ absurd (omega (arith, x)) | inr (inl x) ↦ absurd (omega (arith, x)) | inr (inr (inl x)) ↦ absurd (omega (arith, x)) | inr (inr (inr (inl x))) ↦ absurd (omega (arith, x)) | inr (inr (inr (inr (inl x)))) ↦ absurd (omega (arith, x)) | inr (inr (inr (inr (inr x)))) ↦ absurd (omega (arith, x)) ]
