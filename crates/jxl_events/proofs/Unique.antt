-- Two answers that meet a promise are equal.
use Rattle.jxl_base.proofs.OneAnswer.{one_named}
use Rattle.jxl_events.specs.Event.{payload_of}
use Rattle.jxl_events.specs.Total.{in_file}
use Rattle.jxl_events.specs.Theorems.{OnePayload, OneInFile}

pub one_payload : OnePayload
one_payload s e = one_named (payload_of s e)

pub one_in_file : OneInFile
one_in_file e = one_named (in_file e)
