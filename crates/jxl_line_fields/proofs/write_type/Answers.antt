use Rattle.std.proofs.Common.{[], ◌∷◌}
use Rattle.jxl_lines.proofs.Bytes.{pasted_as, pasted_stored}
use Rattle.jxl_lines.proofs.Numbers.{type_glyphs}
use Rattle.jxl_line_fields.proofs.write_type.Goals as goal

pub returns : goal.returns
returns c =
    pasted_as
    (type_glyphs c.args.ty c.glyph.ensures c.glyph-2.ensures c.glyph-3.ensures c.glyph-4.ensures c.glyph-5.ensures c.glyph-6.ensures c.glyph-7.ensures c.glyph-8.ensures)
    (pasted_stored _ _ c.glyph.result
    (c.glyph-2.result ∷ c.glyph-3.result ∷ c.glyph-4.result ∷ c.glyph-5.result ∷ c.glyph-6.result ∷ c.glyph-7.result ∷ c.glyph-8.result ∷ [])
    c.requires)
