-- What a writer of CSV has written.
use Rattle.std.specs.Prelude.{◌≡◌, ℕ, Bool, true, false, List, Option, Some, Vec}
use Rattle.std.specs.declared.alloc.Global.{Global}
use Rattle.csv.specs.Writing.{default_writer, fields_written, has_written, text_written}
use Rattle.csv.specs.Writing.{with_flexible, writer_setup}
use Rattle.csv.specs.declared.writer.Writer.{Writer}

-- a writer of records of any length has written this text, of whole records
pub record HasWritten (writer : Writer (Vec ℕ Global)) (text : List ℕ) : Type 0 where
  pub setup : writer_setup writer ≡ with_flexible default_writer true
  pub fields : fields_written writer ≡ 0
  pub wrote : has_written writer ≡ false
  pub text_is : text_written (λ (bytes : Vec ℕ Global). Some bytes.items) writer ≡ Some text
