-- Numbers of the refusals.
use Rattle.std.specs.Prelude.{List, [], ◌∷◌, ℕ}
use Rattle.jxl_bit_rules.specs.declared.FieldRefusal.TheVariants.{UnexpectedEof, NonZeroPadding, InvalidFloat, InvalidEnum, Width, TooLong}
use Rattle.jxl_bit_rules.specs.declared.FieldRefusal.{FieldRefusal}

abbrev pub eof : ℕ
eof = 3

abbrev pub padding : ℕ
padding = 4

abbrev pub float : ℕ
float = 5

abbrev pub enum : ℕ
enum = 6

abbrev pub width : ℕ
width = 7

abbrev pub long : ℕ
long = 8

-- the number of each case
abbrev pub numbered : FieldRefusal → ℕ
numbered UnexpectedEof = eof
numbered NonZeroPadding = padding
numbered InvalidFloat = float
numbered (InvalidEnum v) = enum
numbered Width = width
numbered TooLong = long

-- what it tells: of 6, the value
abbrev pub tells : FieldRefusal → List ℕ
tells UnexpectedEof = []
tells NonZeroPadding = []
tells InvalidFloat = []
tells (InvalidEnum v) = v ∷ []
tells Width = []
tells TooLong = []
