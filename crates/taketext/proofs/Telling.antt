-- From the lines of a comment to the wish that it tells.
use Rattle.std.proofs.Common.{◌≡◌, ◌∙◌, ℕ, Bool, true, false, List, [], ◌∷◌, ◌++◌, refl, sym, ap, subst, append_assoc}
use Rattle.std.specs.Prelude.{◌≢◌, ◌||◌, All, codes}
use Rattle.std.specs.List.{AllByRecursion, list_any}
use Rattle.std.proofs.Math.Dec.{eqb}
use Rattle.std.proofs.lemmas.Bool.{eqb-false, or_parts}
use Rattle.std.proofs.lemmas.List.{append-nil, append_cancel_left}
use Rattle.std.proofs.lemmas.List.Elements.{recursion_from_All, All-from_recursion, All-weaker, All-append}
use Rattle.choosing.specs.declared.wish.Wish.{Wish}
use Rattle.choosing.specs.declared.wish.Wish.TheVariants as wish
use Rattle.choosing.specs.Choices.{labels_wished}
use Rattle.mmtext.specs.Words.{Word}
use Rattle.source.specs.Views.{seen_words}
use Rattle.mmsyntax.specs.Layout.{spaced}
use Rattle.mmsyntax.proofs.Distinct.{all_right}
use Rattle.taketext.specs.Comments.{chosen_line}
use Rattle.taketext.specs.Origins.{IsInLine, IsBetweenSpaces, Tells, TellsNothing, TellsOnce, IsForJust}
use Rattle.taketext.specs.Reading.{AreWords, AreOriginLines, IsOrigin, AreWishWords, wish_words}
use Rattle.taketext.proofs.Cutting.{lines_one, words_one}

-- ---- the line of a wish

chosen_words : (w : Wish) → chosen_line w ≡ codes "   Chosen:" ++ (spaced (wish_words w) ++ 10 ∷ [])
chosen_words wish.All = refl
chosen_words (wish.For asked) = refl
chosen_words (wish.These labels axioms) = refl
chosen_words (wish.Between from to) =
    ap (λ (l : List ℕ). codes "   Chosen: from " ++ l)
    (ap (λ (l : List ℕ). from.now ++ (codes " to " ++ (l ++ 10 ∷ []))) (sym (append-nil to.now))
    ∙ sym (append_assoc from.now (codes " to " ++ (to.now ++ [])) (10 ∷ [])))

chosen_rest : (w : Wish) (line rest : List ℕ) → spaced (wish_words w) ≡ 32 ∷ line
    → chosen_line w ++ rest ≡ codes "   Chosen: " ++ (line ++ 10 ∷ rest)
chosen_rest w line rest e =
    ap (λ (l : List ℕ). l ++ rest) (chosen_words w)
    ∙ ap (λ (l : List ℕ). (codes "   Chosen:" ++ (l ++ 10 ∷ [])) ++ rest) e
    ∙ ap (λ (l : List ℕ). codes "   Chosen: " ++ l) (append_assoc line (10 ∷ []) rest)

-- ---- bytes of words and lines

-- what no byte has of some that are written out
none_has : (p : ℕ → Bool) (P : ℕ → Type 0) → ((b : ℕ) → p b ≡ false → P b) → (xs : List ℕ) → list_any p xs ≡ false → AllByRecursion P xs
none_has p P each [] h = tt
none_has p P each (x ∷ xs) h =
    let both = or_parts (p x) (list_any p xs) h in
    (each x both.0, none_has p P each xs both.1)

abbrev Plain : ℕ → Type 0
Plain b = (b ≢ 10) × (b ≢ 32)

abbrev is_space : ℕ → Bool
is_space b = eqb b 10 || eqb b 32

plain : (b : ℕ) → is_space b ≡ false → Plain b
plain b h = let both = or_parts (eqb b 10) (eqb b 32) h in (eqb-false b 10 both.0, eqb-false b 32 both.1)

written_word : (w : Word) → list_any is_space w ≡ false → IsBetweenSpaces w
written_word w h = All-from_recursion Plain w (none_has is_space Plain plain w h)

pub written_line : (l : List ℕ) → list_any (λ b. eqb b 10) l ≡ false → IsInLine l
written_line l h =
    All-from_recursion (λ (b : ℕ). b ≢ 10) l (none_has (λ b. eqb b 10) (λ b. b ≢ 10) (λ b e. eqb-false b 10 e) l h)

pub in_line : (w : Word) → IsBetweenSpaces w → IsInLine w
in_line w h = All-weaker Plain (λ (b : ℕ). b ≢ 10) (λ b q. q.0) w h

spaced_in_line : (ws : List Word) → AllByRecursion IsBetweenSpaces ws → AllByRecursion (λ b. b ≢ 10) (spaced ws)
spaced_in_line [] h = tt
spaced_in_line (w ∷ ws) h =
    let P : ℕ → Type 0 = λ b. b ≢ 10 in (
      eqb-false 32 10 refl,
      recursion_from_All P (w ++ spaced ws)
          (All-append P w (spaced ws) (in_line w h.0) (All-from_recursion P (spaced ws) (spaced_in_line ws h.1))),
    )

behind_in_line : (xs ys : List ℕ) → IsInLine (xs ++ ys) → IsInLine ys
behind_in_line xs ys h =
    let P : ℕ → Type 0 = λ b. b ≢ 10 in
    All-from_recursion P ys (all_right P xs ys (recursion_from_All P (xs ++ ys) h))

-- ---- the words of a wish

abbrev Each : List Word → Type 0
Each ws = AllByRecursion IsBetweenSpaces ws

wish_each : (w : Wish) → (IsForJust w → ⊥) → Each (labels_wished w) → Each (wish_words w)
wish_each wish.All other h = (written_word (codes "all") refl, (written_word (codes "assertions") refl, tt))
wish_each (wish.For asked) other h = (written_word (codes "for") refl, h)
wish_each (wish.These labels axioms) other h = absurd (other tt)
wish_each (wish.Between from to) other h =
    (written_word (codes "from") refl, (h.0, (written_word (codes "to") refl, h.1)))

each_asked : (w : Wish) → (IsForJust w → ⊥) → Each (wish_words w) → Each (labels_wished w)
each_asked wish.All other h = tt
each_asked (wish.For asked) other h = h.1
each_asked (wish.These labels axioms) other h = absurd (other tt)
each_asked (wish.Between from to) other h = (h.1.0, (h.1.1.1.0, tt))

-- ---- a text that tells a wish has its words

module _ (text path : List ℕ) (w : Wish) (h : Tells text path w) where
  so : (first : Word) (others : List Word) → wish_words w ≡ first ∷ others → Each (first ∷ others) → IsOrigin text path (wish_words w)
  so first others are each =
      let P : ℕ → Type 0 = λ b. b ≢ 10 in
      let line = first ++ spaced others in
      let after : IsInLine (spaced others) = All-from_recursion P (spaced others) (spaced_in_line others each.1) in
      let words : spaced (wish_words w) ≡ 32 ∷ line = ap spaced are in
      record {
        chosen = line;
        lines = record {
          second = h.source_line;
          rest = h.rest;
          in_first =
              All-append P (codes "$( Taken by mmrefactor from ") path (written_line (codes "$( Taken by mmrefactor from ") refl)
              h.path_in_line;
          in_second = h.in_line;
          in_third =
              All-append P (codes "   Chosen: ") line (written_line (codes "   Chosen: ") refl)
              (All-append P first (spaced others) (in_line first each.0) after);
          are =
              h.begins
              ∙ ap (λ (l : List ℕ). codes "$( Taken by mmrefactor from " ++ (path ++ (10 ∷ (h.source_line ++ (10 ∷ l)))))
              (chosen_rest w line h.rest words);
        };
        words = record {
          are = words;
          each = subst (All IsBetweenSpaces) (sym are) (All-from_recursion IsBetweenSpaces (first ∷ others) each);
        };
      }

so_told : (text path : List ℕ) (w : Wish) → Tells text path w → Each (wish_words w) → IsOrigin text path (wish_words w)
so_told text path wish.All h each = so text path wish.All h (codes "all") (codes "assertions" ∷ []) refl each
so_told text path (wish.For asked) h each = so text path (wish.For asked) h (codes "for") (seen_words asked.now) refl each
so_told text path (wish.These labels axioms) h each = absurd (h.asked.other tt)
so_told text path (wish.Between from to) h each =
    so text path (wish.Between from to) h (codes "from") (from.now ∷ codes "to" ∷ to.now ∷ []) refl each

pub told_so : (text path : List ℕ) (w : Wish) → Tells text path w → IsOrigin text path (wish_words w)
told_so text path w h =
    so_told text path w h (wish_each w h.asked.other (recursion_from_All IsBetweenSpaces (labels_wished w) h.asked.labels))

pub untold : (text : List ℕ) → ((path chosen : List ℕ) → AreOriginLines text path chosen → ⊥) → TellsNothing text
untold text none path w h = let o = told_so text path w h in none path o.chosen o.lines

-- ---- a text has one path, and one list of words

pub origin_one : (text path other : List ℕ) (ws vs : List Word) → IsOrigin text path ws → IsOrigin text other vs
    → (path ≡ other) × (ws ≡ vs)
origin_one text path other ws vs h k =
    let lines = lines_one text _ _ _ _ h.lines k.lines in
    let chosen : h.chosen ≡ k.chosen = append_cancel_left (codes "   Chosen: ") h.chosen k.chosen lines.1 in (
      append_cancel_left (codes "$( Taken by mmrefactor from ") path other lines.0,
      words_one k.chosen ws vs (subst (λ (l : List ℕ). AreWords l ws) chosen h.words) k.words,
    )

-- ---- and the words tell the wish

module _ (text path : List ℕ) (ws : List Word) (o : IsOrigin text path ws) where
  pub tells : (w : Wish) → AreWishWords ws w → Tells text path w
  tells w h =
      let each : Each (wish_words w) =
      subst Each (sym h.are) (recursion_from_All IsBetweenSpaces ws o.words.each) in
      let words : spaced (wish_words w) ≡ 32 ∷ o.chosen = ap spaced h.are ∙ o.words.are in
      record {
        source_line = o.lines.second;
        rest = o.lines.rest;
        path_in_line = behind_in_line (codes "$( Taken by mmrefactor from ") path o.lines.in_first;
        in_line = o.lines.in_second;
        asked = record {
          other = h.asked;
          labels = All-from_recursion IsBetweenSpaces (labels_wished w) (each_asked w h.asked each);
        };
        begins =
            o.lines.are
            ∙ ap (λ (l : List ℕ). codes "$( Taken by mmrefactor from " ++ (path ++ (10 ∷ (o.lines.second ++ (10 ∷ l)))))
            (sym (chosen_rest w o.chosen o.lines.rest words));
      }

  pub tells_none : ((w : Wish) → AreWishWords ws w → ⊥) → TellsNothing text
  tells_none none other w h =
      let same = origin_one text path other ws (wish_words w) o (told_so text other w h) in
      none w (record { asked = h.asked.other; are = sym same.1 })

pub chosen_in_line : (text path chosen : List ℕ) → AreOriginLines text path chosen → IsInLine chosen
chosen_in_line text path chosen h = behind_in_line (codes "   Chosen: ") chosen h.in_third

pub tells_once : TellsOnce
tells_once text path other w v h k =
    let same = origin_one text path other (wish_words w) (wish_words v) (told_so text path w h) (told_so text other v k) in (
      same.0,
      chosen_words w
          ∙ ap (λ (ws : List Word). codes "   Chosen:" ++ (spaced ws ++ 10 ∷ [])) same.1
          ∙ sym (chosen_words v),
    )
