-- What words say, as the code goes through them: each with the three in front of it.
use Rattle.std.proofs.Common.{◌≡◌, ◌∙◌, ℕ, ◌<◌, ◌≤◌, Bool, true, false, List, [], ◌∷◌, refl, sym, ap, ap₂}
use Rattle.std.specs.Prelude.{◌||◌, ◌&&◌, nat_eq, codes}
use Rattle.std.specs.List.{starts_with, ends_with}
use Rattle.std.specs.Str.{bytes_eq}
use Rattle.std.proofs.Math.Bool.{or_assoc}
use Rattle.mmtext.specs.Words.{Word}
use Rattle.mmtext.specs.Text.{Token}
use Rattle.items.specs.Items.{Item, words}
use Rattle.items.specs.Reading.{IsFirst, end_of, Stands}
use Rattle.items.proofs.Reworded.{one_left, nothing_left}
use Rattle.remarks.specs.Remarks.{Phrase, modification, usage, begins_phrase, says_phrase}
use Rattle.remarks.specs.Views.{behind_window, SayThese}
use Rattle.remarks.specs.declared.phrases.Window.{Window}
use Rattle.remarks.specs.declared.comments.Remark.{Remark}

-- ---- words that aren't there

module _ (p : Phrase) (never : ends_with nat_eq [] p.first ≡ false) where
  begins_none : (ws : List Word) → begins_phrase p ([] ∷ ws) ≡ false
  begins_none [] = refl
  begins_none (b ∷ []) = refl
  begins_none (b ∷ c ∷ []) = refl
  begins_none (b ∷ c ∷ d ∷ ws) =
      ap (λ a. a && bytes_eq b p.second && bytes_eq c (codes "is") && starts_with nat_eq d (codes "discouraged.)")) never

  one_missing : (ws : List Word) → says_phrase p ([] ∷ ws) ≡ says_phrase p ws
  one_missing ws = ap (λ b. b || says_phrase p ws) (begins_none ws)

  all_missing : (w : Window) → w.first.now ≡ [] → w.second.now ≡ [] → w.third.now ≡ [] → (ws : List Word)
      → says_phrase p ws ≡ says_phrase p (behind_window w ws)
  all_missing w first second third ws =
      sym (ap (says_phrase p) (ap₂ (λ v vs. v ∷ vs) first (ap₂ (λ v vs. v ∷ vs) second (ap (λ v. v ∷ ws) third)))
      ∙ (one_missing ([] ∷ [] ∷ ws) ∙ (one_missing ([] ∷ ws) ∙ one_missing ws)))

-- ---- one more word

module _ (p : Phrase) (w v : Window) (word : Word) (ws : List Word) (first : v.first.now ≡ w.second.now)
    (second : v.second.now ≡ w.third.now) (third : v.third.now ≡ word) where
  with_next : (old new : Bool) → new ≡ (old || begins_phrase p (behind_window w (word ∷ [])))
      → (old || says_phrase p (behind_window w (word ∷ ws))) ≡ (new || says_phrase p (behind_window v ws))
  with_next old new is =
      let three : behind_window v ws ≡ w.second.now ∷ w.third.now ∷ word ∷ ws =
      ap₂ (λ u us. u ∷ us) first (ap₂ (λ u us. u ∷ us) second (ap (λ u. u ∷ ws) third)) in
      sym (ap₂ (λ b us. b || says_phrase p us) is three
      ∙ or_assoc old (begins_phrase p (behind_window w (word ∷ []))) (says_phrase p (w.second.now ∷ w.third.now ∷ word ∷ ws)))

or_nothing : (b : Bool) → (b || false) ≡ b
or_nothing true = refl
or_nothing false = refl

-- ---- the words of an item

-- what it says stands in so many of its words, or in those that are left with the three in front of these
pub record IsHeard (text : List ℕ) (at end : ℕ) (x : Item) (w : Window) (r : Remark) : Type 0 where
  pub left : Item
  pub stands : Stands text at left end
  pub modification_is : says_phrase modification (words x) ≡ (r.modification || says_phrase modification (behind_window w (words left)))
  pub usage_is : says_phrase usage (words x) ≡ (r.usage || says_phrase usage (behind_window w (words left)))

module _ (text : List ℕ) (at end : ℕ) (x : Item) (w : Window) (r : Remark) where
  pub none_heard : Stands text at x end → w.first.now ≡ [] → w.second.now ≡ [] → w.third.now ≡ [] → r.modification ≡ false
      → r.usage ≡ false → IsHeard text at end x w r
  none_heard stands first second third modifies uses = record {
    left = x;
    stands = stands;
    modification_is =
        all_missing modification refl w first second third (words x)
        ∙ ap (λ b. b || says_phrase modification (behind_window w (words x))) (sym modifies);
    usage_is =
        all_missing usage refl w first second third (words x)
        ∙ ap (λ b. b || says_phrase usage (behind_window w (words x))) (sym uses);
  }

  pub one_heard : (t : Token) (v : Window) (now : Remark) → IsHeard text at end x w r → at < end → IsFirst text at t
      → v.first.now ≡ w.second.now → v.second.now ≡ w.third.now → v.third.now ≡ t.text
      → now.modification ≡ (r.modification || begins_phrase modification (behind_window w (t.text ∷ [])))
      → now.usage ≡ (r.usage || begins_phrase usage (behind_window w (t.text ∷ []))) → IsHeard text (end_of t) end x v now
  one_heard t v now h lt is first second third more other =
      let l = one_left text at end h.left t h.stands lt is in record {
        left = l.0;
        stands = l.2;
        modification_is =
            h.modification_is
            ∙ (ap (λ y. r.modification || says_phrase modification (behind_window w (words y))) l.1
            ∙ with_next modification w v t.text (words l.0) first second third r.modification now.modification more);
        usage_is =
            h.usage_is
            ∙ (ap (λ y. r.usage || says_phrase usage (behind_window w (words y))) l.1
            ∙ with_next usage w v t.text (words l.0) first second third r.usage now.usage other);
      }

  pub all_heard : IsHeard text at end x w r → end ≤ at → SayThese (words x) r
  all_heard h le =
      let none = nothing_left text at end h.left h.stands le in record {
        modification_is =
            sym (h.modification_is
            ∙ (ap (λ y. r.modification || says_phrase modification (behind_window w (words y))) none ∙ or_nothing r.modification));
        usage_is =
            sym (h.usage_is
            ∙ (ap (λ y. r.usage || says_phrase usage (behind_window w (words y))) none ∙ or_nothing r.usage));
      }
