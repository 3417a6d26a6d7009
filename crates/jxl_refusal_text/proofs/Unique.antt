-- Two answers that meet the promise are equal, and so are the buffers that they leave.
use Rattle.jxl_lines.proofs.Unique.{one_put_bytes}
use Rattle.jxl_refusal_words.specs.Text.{text}
use Rattle.jxl_refusal_text.specs.Theorems.{OnePutRefusal}

pub one_put_refusal : OnePutRefusal
one_put_refusal d at w = one_put_bytes d at (text w)
