-- The worked cases, computed.
use mathlib.Core.Path.{refl}
use Rattle.jxl_cuts.specs.Feeding as AnyMachine
use Rattle.jxl_signatures.specs.Signature.{signature_of}
use Rattle.jxl_headers.specs.Header.{header_of, extended}
use Rattle.jxl_grammar.specs.Step as Boxes
use Rattle.jxl_totals.specs.Step.{step_of}
use Rattle.jxl_totals.specs.Pieces.{Worked}

pub worked : Worked
unfolding step_of AnyMachine.taking AnyMachine.fed Boxes.step_of Boxes.box_step Boxes.code_step Boxes.index_step Boxes.inner_step signature_of header_of extended
worked =
    ((refl, refl, refl), ((refl, refl, refl), ((refl, refl, refl), ((refl, refl, refl), ((refl, refl, refl), ((refl, refl, refl), ((refl, refl, refl), ((refl, refl, refl), (refl, (refl, (refl, (refl, (refl, (refl, (refl, (refl, (refl, (refl, (refl, (refl, (refl, (refl, (refl, tt)))))))))))))))))))))))
