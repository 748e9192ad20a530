use Rattle.std.proofs.Common.{◌≡◌, ◌≢◌, ◌<◌, ◌^◌, ◌∙◌, ap, arith}
use Rattle.csv.specs.Writing.{default_writer, row_text, writer_setup}
use Rattle.csv.specs.Records.{fields_of}
use Rattle.csv.specs.declared.writer.QuoteStyle.TheVariants as style
use Rattle.policies.specs.Reports.{rate_of}
use Rattle.report.specs.Text.{line_text, row_fields}
use Rattle.report.proofs.Plain.{appended, row_plain}
use Rattle.report.proofs.rows.write_row.Goals as goal

pub returns-in-Ok : goal.returns-in-Ok
returns-in-Ok c text was =
    let fields = row_fields c.args.report.now c.args.numbers.now in
    let few : rate_of c.args.report.now < 10 ^ 64 = omega (arith, c.in_ok-push_fields.ensures.rate) in
    let necessary : (writer_setup c.args.writer.now).style ≢ style.NonNumeric = rw was.setup (λ e. absurd (cc e)) in
    let line : row_text (writer_setup c.args.writer.now) (fields_of c.push_fields.new.row) ≡ line_text fields = ap (λ s. row_text s (fields_of c.push_fields.new.row)) was.setup
    ∙ ap (row_text default_writer) c.in_ok-push_fields.ensures.fields ∙ row_plain c.args.report.now c.args.numbers.now (λ k. (c.type_inv.numbers k).fits) few c.in_ok-push_fields.ensures.sizes in
    record {
      setup = c.in-Ok.ensures.setup ∙ was.setup;
      fields = c.in-Ok.ensures.ended;
      wrote = c.in-Ok.ensures.clean;
      bytes = appended _ _ _ _ _ was.bytes (c.in-Ok.ensures.bytes was.fields was.wrote necessary) line;
    }
