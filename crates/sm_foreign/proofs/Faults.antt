-- Why rows make no books.
use Rattle.std.proofs.Common.{◌≡◌, ◌∙◌, ◌⊎◌, inl, inr, Option, Some, None, Result, Err, IfNone, IfSome, IsOkUnless}
use Rattle.std.proofs.Common.{refl, rules, subst}
use Rattle.sm_place.specs.Books.{BooksView, first_books_fault}
use Rattle.sm_place.specs.declared.books_fault.BooksFault.{BooksFault}
use Rattle.sm_place.specs.declared.books_fault.BooksFault.TheVariants.{NoMemory}
use Rattle.sm_settings.specs.SettingsLine.{SettingsValues}
use Rattle.sm_settings.specs.SettingsRules.{KeepsRules, PassTests}

some_none : {X : Type 0} (x : X) → Some x ≡ None → ⊥
some_none x is = search rules

same_err : {X E : Type 0} (result : Result X E) (x y : E) → result ≡ Err x → result ≡ Err y → x ≡ y
same_err result x y is also = search rules

-- a told fault is the first of the rows, or memory was refused
pub told : (first : Option BooksFault) (result : Result BooksView BooksFault) (fault : BooksFault)
    → result ≡ Err fault → IfSome first (λ it. result ≡ Err it) → IfNone first (IsOkUnless result NoMemory)
    → (fault ≡ NoMemory) ⊎ (Some fault ≡ first)
told (Some it) result fault is some none = let same : fault ≡ it = same_err result fault it is some in search rules
told None result fault is some none =
    let same : fault ≡ NoMemory = subst (λ (one : Result BooksView BooksFault). IsOkUnless one NoMemory) is none in
    search rules

-- rows of settings make books
pub no_books_fault : (settings : SettingsValues) → KeepsRules settings
    → first_books_fault settings.servers settings.groups settings.shards settings.domains ≡ None
unfolding PassTests
no_books_fault settings rules = let tests = rules.tests in rw (tests.0, tests.1, tests.2, tests.3) refl

-- a fault of rows without a fault is a lack of memory
pub memory_alone : (first : Option BooksFault) (fault : BooksFault) → (fault ≡ NoMemory) ⊎ (Some fault ≡ first)
    → first ≡ None → fault ≡ NoMemory
memory_alone first fault (inl memory) none = memory
memory_alone first fault (inr is) none = absurd (some_none fault (is ∙ none))
