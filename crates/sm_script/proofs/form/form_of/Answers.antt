use Rattle.std.proofs.Common.{◌∙◌, sym, ap}
use Rattle.std.specs.List.{find}
use Rattle.std.specs.Option.{option_map}
use Rattle.std.specs.Str.{bytes_eq}
use Rattle.sm_script.specs.Forms.{row_of_form}
use Rattle.sm_script.proofs.FormLemmas.{find-map}
use Rattle.sm_script.proofs.form.form_of.Goals as goal

pub returns : goal.returns
returns c =
    ap (option_map row_of_form) c.named_among.ensures
    ∙ sym (find-map row_of_form (λ row. bytes_eq row.name c.args.bytes.now) c.forms.result.now)
    ∙ ap (find (λ row. bytes_eq row.name c.args.bytes.now)) c.forms.ensures
