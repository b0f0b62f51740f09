-- The text of another proof is laid out with the indentation of the old one.
use Rattle.std.proofs.Common.{◌≡◌, ◌∙◌, ℕ, List, Some, ap, subst}
use Rattle.std.specs.Prelude.{find, slice_get, IsTrue}
use Rattle.std.specs.Option.{option_map, option_and_then}
use Rattle.std.specs.Str.{bytes_eq}
use Rattle.mmtext.specs.Words.{Word}
use Rattle.mmsyntax.specs.declared.statement.Assertion.{Assertion}
use Rattle.mmsyntax.specs.Tables.{place_of}
use Rattle.source.specs.Scopes.{Scope, Assertion as Old}
use Rattle.giving.specs.Staying.{Change}
use Rattle.items.specs.Walking.{AreIndentations}
use Rattle.sourcewriting.specs.Forms.{is_compressed_form}
use Rattle.sourcewriting.specs.Indentations.{indentation_like}
use Rattle.sourcewriting.specs.Lines.{IsInLines}
use Rattle.sourcewriting.specs.MarkedTexts.{IsMarkedText}
use Rattle.sourceediting.specs.Following.{Followed}
use Rattle.sourceediting.specs.Entries.{Edition, TakesThen}
use Rattle.sourceediting.specs.Reproved.{has_premises, IsWrittenFor}

abbrev pub found_in : List Change → Word → Assertion → List ℕ
found_in cs label new = indentation_like (option_map (λ c. c.1) (find (λ c. bytes_eq label c.0) cs)) (has_premises new)

pub written_for : (source : List ℕ) (s : Scope) (e : Edition) (living : List Followed) (label : Word) (new : Assertion) (text i : List ℕ)
    (cs : List Change) (place : ℕ) → AreIndentations source cs → place_of (λ x. bytes_eq label x.label) s.assertions ≡ Some place
    → i ≡ found_in cs label new → IsInLines i (is_compressed_form (option_and_then (λ x. x.proof) (slice_get s.assertions place))) text
    → ((x : Old) → slice_get s.assertions place ≡ Some x → IsTrue (is_compressed_form x.proof)
    → IsMarkedText i (TakesThen s e living x.hypotheses) x.hypotheses text) → IsWrittenFor source s e living label new text
written_for source s e living label new text i cs place indented stands is laid marked =
    let form = is_compressed_form (option_and_then (λ x. x.proof) (slice_get s.assertions place)) in
    let same = is ∙ ap (λ l. found_in l label new) indented.are in record {
      place = place;
      stands = stands;
      items = indented.items;
      rest = indented.rest;
      spells = indented.spells;
      laid_out = subst (λ j. IsInLines j form text) same laid;
      marked = λ x at compressed.
          subst (λ j. IsMarkedText j (TakesThen s e living x.hypotheses) x.hypotheses text) same (marked x at compressed);
    }
