-- What items discourage, by their kinds: comments alone begin with $(.
use Rattle.std.proofs.Common.{◌≡◌, ◌∙◌, Bool, true, false, List, [], ◌∷◌, ◌++◌, take, refl, sym, ap, codes}
use Rattle.std.specs.Prelude.{◌||◌, ◌&&◌}
use Rattle.std.specs.List.{list_any}
use Rattle.std.specs.Str.{bytes_eq}
use Rattle.mmtext.specs.Words.{Word}
use Rattle.items.specs.declared.reading.Kind.{Kind}
use Rattle.items.specs.declared.reading.Kind.TheVariants.{Comment, Opening, Closing, Assertion, Other}
use Rattle.items.specs.Items.{Item, words, IsComment}
use Rattle.items.specs.Reading.{IsOfKind}
use Rattle.remarks.specs.Remarks.{modification, usage, says_phrase, begins_comment}
use Rattle.remarks.specs.Views.{SayThese, IsRemark}
use Rattle.remarks.specs.declared.comments.Remark.{Remark}

-- ---- comments

pub comment_says : (x : Item) (r : Remark) → IsComment x → SayThese (words x) r → IsRemark x r
comment_says x r is h =
    let begins : begins_comment (words x) ≡ true = ap begins_comment is.whole in record {
      modification_is = h.modification_is ∙ ap (λ b. b && says_phrase modification (words x)) (sym begins);
      usage_is = h.usage_is ∙ ap (λ b. b && says_phrase usage (words x)) (sym begins);
    }

-- ---- others

neither : (b : Bool) → (b || false) ≡ false → b ≡ false
neither false e = refl
neither true e = absurd cc

statement_begins : (front : List Word) (ws : List Word) → ws ≡ front ++ codes "$." ∷ []
    → list_any (λ w. bytes_eq w (codes "$(")) (take 1 front) ≡ false → begins_comment ws ≡ false
statement_begins [] ws whole begins = ap begins_comment whole
statement_begins (w ∷ front) ws whole begins = ap begins_comment whole ∙ neither (bytes_eq w (codes "$(")) begins

begins_otherwise : (k : Kind) → (k ≡ Comment → ⊥) → (x : Item) → IsOfKind k x → begins_comment (words x) ≡ false
begins_otherwise Comment other x is = absurd (other refl)
begins_otherwise Opening other x is = ap begins_comment is
begins_otherwise Closing other x is = ap begins_comment is
begins_otherwise (Assertion label) other x is = statement_begins is.0.front (words x) is.0.whole is.0.begins
begins_otherwise Other other x is = statement_begins is.0.front (words x) is.0.whole is.0.begins

pub other_says_none : (k : Kind) → (k ≡ Comment → ⊥) → (x : Item) (r : Remark) → IsOfKind k x → r.modification ≡ false → r.usage ≡ false
    → IsRemark x r
other_says_none k other x r is modifies uses =
    let begins = begins_otherwise k other x is in record {
      modification_is = modifies ∙ ap (λ b. b && says_phrase modification (words x)) (sym begins);
      usage_is = uses ∙ ap (λ b. b && says_phrase usage (words x)) (sym begins);
    }
