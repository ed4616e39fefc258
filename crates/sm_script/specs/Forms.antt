-- The table of the forms of lines, which is a constant of the code, and how forms are looked up in it.
use Rattle.std.specs.Prelude.{◌≡◌, ◌&&◌, ℕ, List, [], ◌∷◌, Option, Bool, true, false, map}
use Rattle.std.specs.Borrow.{Bor}
use Rattle.std.specs.List.{find, list_any}
use Rattle.std.specs.Str.{bytes_eq}
use Rattle.sm_script.specs.declared.form.FormOf.{FormOf}
use Rattle.sm_script.specs.declared.shape.Shape.{Shape}
use Rattle.sm_script.specs.declared.topic.Topic.{Topic}
use Rattle.sm_script.specs.declared.topic.Topic.TheVariants.{Requests}
use Rattle.sm_script.specs.declared.word.Word.{Word}
use Rattle.sm_script.specs.declared.word.TheConstants.{FORMS}

-- everything that a form says, as bytes: the call that the line becomes, its word, the shapes of the words after it,
-- and the texts that are printed of it
pub record FormRow : Type 0 where
  pub word : Word
  pub name : List ℕ
  pub arguments : List ℕ
  pub shapes : List Shape
  pub topic : Topic
  pub help : List ℕ
  pub example : List ℕ

-- the row of a form of the code
abbrev pub row_of_form : FormOf (Bor (List ℕ)) (Bor (List Shape)) → FormRow
row_of_form form = record {
  word = form.word;
  name = form.name.now;
  arguments = form.arguments.now;
  shapes = form.shapes.now;
  topic = form.topic;
  help = form.help.now;
  example = form.example.now;
}

-- the table
unfoldable pub table : List FormRow
table = map (λ form. record {
  word = form.word;
  name = form.name.now;
  arguments = form.arguments.now;
  shapes = form.shapes.now;
  topic = form.topic;
  help = form.help.now;
  example = form.example.now;
}) FORMS

-- the row whose word has these bytes
abbrev pub form_named : List ℕ → Option FormRow
form_named bytes = find (λ row. bytes_eq row.name bytes) table

-- the form of a request
abbrev pub is_request : Topic → Bool
is_request Requests = true
is_request _ = false

-- the row of a request whose word has these bytes
abbrev pub request_form_named : List ℕ → Option FormRow
request_form_named bytes = find (λ row. is_request row.topic && bytes_eq row.name bytes) table

-- no name comes twice
abbrev pub NamesDiffer : List (List ℕ) → Type 0
NamesDiffer [] = Unit
NamesDiffer (name ∷ names) = (list_any (bytes_eq name) names ≡ false) × NamesDiffer names
