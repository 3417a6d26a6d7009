-- Two answers that meet a promise are equal.
use mathlib.Core.Path.{◌≡◌, refl, ap}
use Rattle.jxl_base.proofs.OneAnswer.{one_named, one_told}
use Rattle.jxl_headers.specs.Bytes.{be32}
use Rattle.jxl_headers.specs.Header.{header_of, numbered, told_header}
use Rattle.jxl_refusals.specs.Refusals.{why}
use Rattle.jxl_refusals.proofs.Telling.{why_tells}
use Rattle.jxl_headers.specs.Theorems.{OneHeader, OneWord}
use Rattle.jxl_headers.specs.declared.box_header.HeaderParseResult.{HeaderParseResult}
use Rattle.jxl_headers.specs.declared.box_header.HeaderParseResult.TheVariants as H

header_one : (x y : HeaderParseResult) → told_header x ≡ told_header y → x ≡ y
header_one (H.Done h n) (H.Done g m) e =
    let type : h.ty ≡ g.ty = cc in
    let size : h.box_size ≡ g.box_size = cc in
    let read : n ≡ m = cc in
    λ i. H.Done (record { ty = type i; box_size = size i }) (read i)
header_one (H.Done h n) H.NeedMoreData e = cc
header_one (H.Done h n) (H.Refused r) e = cc
header_one H.NeedMoreData (H.Done g m) e = cc
header_one H.NeedMoreData H.NeedMoreData e = refl
header_one H.NeedMoreData (H.Refused r) e = cc
header_one (H.Refused q) (H.Done g m) e = cc
header_one (H.Refused q) H.NeedMoreData e = cc
header_one (H.Refused q) (H.Refused r) e =
    let same : why q ≡ why r = cc in
    ap H.Refused (why_tells q r same)

pub one_header : OneHeader
one_header s = one_told told_header header_one (numbered (header_of s))

pub one_word : OneWord
one_word s at = one_named (be32 s at)
