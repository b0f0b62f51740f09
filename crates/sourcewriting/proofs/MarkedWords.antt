-- The words of a compressed proof that is read again, and its text.
use Rattle.std.proofs.Common.{◌≡◌, ℕ, List, [], ◌++◌, map, sym, ap, subst, ◌∙◌, Bool, Vec, Global}
use Rattle.std.specs.Prelude.{Contains, Option, Some, None, Result, Ok, Err, IfOk, IfSome}
use Rattle.std.specs.declared.alloc.AllocError.{AllocError}
use Rattle.sourcewriting.specs.Taking.{IsMarkedAs}
use Rattle.std.specs.List.{flat_map}
use Rattle.mmtext.specs.Words.{Word}
use Rattle.sourcewriting.specs.declared.layout.Layout.{Layout}
use Rattle.sourcewriting.specs.declared.shared.CountedLabel.{CountedLabel}
use Rattle.sourcewriting.specs.Laid.{IsLaid, IsWhole, HasCut, IsInForm, IsLaidOutAs}
use Rattle.sourcewriting.specs.Lines.{IsInLines, laid_out, parenthesized}
use Rattle.sourcewriting.specs.Reading.{counts_of, labels_in, HaveMore, AreMarkedLetters, IsMarkedLayout}

-- letters behind labels in parentheses are marked
pub marked_words : (i : List ℕ) (before after : Layout) (words none others counted : List CountedLabel) (mandatory : List Word)
    (letters : List ℕ) → none ≡ [] → HaveMore words none others
    → counts_of counted ≡ map (λ w. (w, 0)) mandatory ++ counts_of others → IsLaid i before (parenthesized (labels_in others))
    → ((i : List ℕ) (ws : List Word) → IsLaid i before ws
    → (cut : List Word) × (flat_map (λ w. w) cut ≡ letters) × HasCut i after ws cut)
    → AreMarkedLetters counted letters → IsMarkedLayout i after mandatory words
marked_words i before after words none others counted mandatory letters empty have are was more marked = record {
  labels = others;
  among = λ p has.
      have.among p (subst (λ ps. Contains ps p) (have.behind ∙ ap (λ cs. counts_of cs ++ have.others) empty) has);
  counted = counted;
  are = are;
  letters = letters;
  laid = more i (parenthesized (labels_in others)) was;
  marked = marked;
}

-- ---- the text

pub if_some : {A E : Type 0} {P Q : A → Type 0} (r : Result (Option A) E) → ((x : A) → P x → Q x) → IfOk r (λ o. IfSome o P)
    → IfOk r (λ o. IfSome o Q)
if_some (Ok (Some x)) f h = f x h
if_some (Ok None) f h = tt
if_some (Err e) f h = tt

pub laid_out_text : (i : List ℕ) (form : Bool) (l : Layout) (made : Result (Option (Vec ℕ Global)) AllocError) → IsInForm i form l
    → ((i : List ℕ) (ws : List Word) → IsLaid i l ws
    → IfOk made (λ made. IfSome made (λ text. IsWhole l × IsLaidOutAs i ws text.items)))
    → IfOk made (λ made. IfSome made (λ text. IsInLines i form text.items))
laid_out_text i form l made has finished =
    if_some made
    (λ text is.
    subst (λ f. IsInLines i f text.items) (has.2 is.0.1)
    (record { laid = is.1.laid; lines = is.1.lines ∙ ap (laid_out i) (sym is.1.says) }))
    (finished i has.0 has.1)

pub marked_text : (i : List ℕ) (l : Layout) (mandatory : List Word) (words : List CountedLabel)
    (made : Result (Option (Vec ℕ Global)) AllocError) → IsMarkedLayout i l mandatory words
    → ((i : List ℕ) (ws : List Word) → IsLaid i l ws
    → IfOk made (λ made. IfSome made (λ text. IsWhole l × IsLaidOutAs i ws text.items)))
    → IfOk made (λ made. IfSome made (λ text. IsMarkedAs i mandatory words text.items))
marked_text i l mandatory words made has finished =
    if_some made
    (λ text is. record {
      labels = has.labels;
      among = has.among;
      counted = has.counted;
      are = has.are;
      letters = has.laid.0;
      laid = is.1;
      filled = has.laid.2.1 is.0;
      marked = subst (λ bs. AreMarkedLetters has.counted bs) (sym has.laid.1) has.marked;
    })
    (finished i (parenthesized (labels_in has.labels) ++ has.laid.0) has.laid.2.0)
