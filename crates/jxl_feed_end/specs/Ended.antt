-- What the end call of a lent parser answers, with the parser that is left there: as the end call by value.
pub use Rattle.jxl_end.specs.Told.{told_ended}
