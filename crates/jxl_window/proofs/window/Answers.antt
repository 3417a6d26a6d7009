-- Eight bytes, the first lowest: read as they are, or each with 0 for what lies beyond the end.
use Rattle.std.proofs.Common.{◌≡◌, ◌+◌, ◌*◌, ◌/◌, get_or, arith}
use Rattle.jxl_bit_rules.proofs.Numbers.{eight}
use Rattle.jxl_window.proofs.window.Goals as goal

pub returns-then-i-s : goal.returns-then-i-s
returns-then-i-s c =
    let s = c.args.s.now in
    let i = c.args.at / 8 in
    let sum : c.from_le_bytes.result ≡ get_or s i 0 + get_or s (i + 1) 0 * 256 + get_or s (i + 2) 0 * 65536 + get_or s (i + 3) 0 * 16777216 + get_or s (i + 4) 0 * 4294967296 + get_or s (i + 5) 0 * 1099511627776 + get_or s (i + 6) 0 * 281474976710656 + get_or s (i + 7) 0 * 72057594037927936 = c.from_le_bytes.ensures in
    omega (arith, sum, eight s (λ i. (c.type_inv.s i).fits) i)

pub returns-else-i-s : goal.returns-else-i-s
returns-else-i-s c =
    let s = c.args.s.now in
    let i = c.args.at / 8 in
    let sum : c.from_le_bytes-else-i-s.result ≡ c.byte_or_zero.result + c.byte_or_zero-else-i-s.result * 256 + c.byte_or_zero-else-i-s-2.result * 65536 + c.byte_or_zero-else-i-s-3.result * 16777216 + c.byte_or_zero-else-i-s-4.result * 4294967296 + c.byte_or_zero-else-i-s-5.result * 1099511627776 + c.byte_or_zero-else-i-s-6.result * 281474976710656 + c.byte_or_zero-else-i-s-7.result * 72057594037927936 = c.from_le_bytes-else-i-s.ensures in
    omega (arith, sum, eight s (λ i. (c.type_inv.s i).fits) i, c.byte_or_zero.ensures, c.byte_or_zero-else-i-s.ensures, c.byte_or_zero-else-i-s-2.ensures, c.byte_or_zero-else-i-s-3.ensures, c.byte_or_zero-else-i-s-4.ensures, c.byte_or_zero-else-i-s-5.ensures, c.byte_or_zero-else-i-s-6.ensures, c.byte_or_zero-else-i-s-7.ensures)
