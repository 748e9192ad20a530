-- A writer of records that stands between two records, with the crate's defaults.
use Rattle.std.specs.Prelude.{◌≡◌, ℕ, List, Some, false}
use Rattle.std.specs.Global.{Vec}
use Rattle.csv.specs.Writing.{default_writer, fields_written, has_written, text_written, writer_setup}
use Rattle.csv.specs.declared.writer.Writer.{Writer}

-- it wrote this text
pub record HasWritten (text : List ℕ) (w : Writer (Vec ℕ)) : Type 0 where
  pub setup : writer_setup w ≡ default_writer
  pub fields : fields_written w ≡ 0
  pub wrote : has_written w ≡ false
  pub bytes : text_written (λ v. Some v.items) w ≡ Some text
