-- The words of another proof are those of its steps, which are read from them again.
use Rattle.std.proofs.Common.{◌≡◌, ◌≢◌, ℕ, zero, suc, ◌<◌, ◌≤◌, true, ltb, List, [], ◌∷◌, ◌++◌, length, map, Option, Some, None, Ok}
use Rattle.std.proofs.Common.{refl, sym, ap, subst, ◌∙◌, append_assoc, arith, length-append}
use Rattle.std.specs.List.{AllByRecursion}
use Rattle.std.proofs.lemmas.Bool.{both_ways}
use Rattle.std.proofs.lemmas.List.{append-nil, map-append}
use Rattle.mmtext.specs.declared.fault.FaultKind.TheVariants.{BadLabel, LabelClashes}
use Rattle.mmtext.specs.Words.{Word, is_label}
use Rattle.mmsyntax.specs.declared.statement.Step.{Step}
use Rattle.mmsyntax.specs.declared.statement.Step.TheVariants.{Float, Hyp, Cite}
use Rattle.mmsyntax.specs.declared.symbols.Name.{Name}
use Rattle.mmsyntax.specs.declared.symbols.Name.TheVariants.{Constant, Variable, Label}
use Rattle.mmsyntax.specs.Tables.{Tables, meaning}
use Rattle.mmsyntax.specs.Rows.{first_fault}
use Rattle.mmsyntax.specs.Steps.{step_tests, float_named, step_named}
use Rattle.mmsyntax.specs.Layout.{hypothesis_label, step_word, float_at}
use Rattle.mmsyntax.specs.Assertions.{CitesApart, IsNameable}
use Rattle.mmsyntax.specs.Preludes.{AreSound}
use Rattle.mmsyntax.proofs.Again.{Finds, named_again}
use Rattle.mmsyntax.proofs.Names.{same_bytes}
use Rattle.mmsyntax.proofs.Found.{label_at, no_fault}
use Rattle.mmsyntax.proofs.Sound.{if_ok}
use Rattle.mmsyntax.specs.Dotted.{hypothesis_numbered, is_dotted}
use Rattle.mmsyntax.proofs.DottedWords.{dotted_is, numbered_some, numbered_none, numbered_is}
use Rattle.scripts.specs.Scripts.{counted_from_0, other_step_of, OtherSteps}

module _ (t : Tables) (label : Word) where
  float_word : (w : Word) (o : Option Name) (j : ℕ) → meaning t w ≡ o → float_named o ≡ Some j → w ≡ (float_at t.floats j).label
  float_word w (Some (Label k)) j e h =
      let same : k ≡ j = cc in
      subst (λ (n : ℕ). w ≡ (float_at t.floats n).label) same (same_bytes w (float_at t.floats k).label (label_at t w k e).1)
  float_word w (Some (Constant i)) j e h = absurd cc
  float_word w (Some (Variable i o)) j e h = absurd cc
  float_word w None j e h = absurd cc

  numbered_word : (w : Word) (o : Option ℕ) (n : ℕ) → hypothesis_numbered label w ≡ o → counted_from_0 o ≡ Some n
      → w ≡ hypothesis_label label (suc n)
  numbered_word w None n e h = absurd cc
  numbered_word w (Some zero) n e h = absurd cc
  numbered_word w (Some (suc k)) n e h =
      let same : k ≡ n = cc in
      subst (λ (m : ℕ). w ≡ hypothesis_label label (suc m)) same (numbered_is label w (suc k) e).2

  named_word : (w : Word) (s : Step) (f h : Option ℕ) → float_named (meaning t w) ≡ f → counted_from_0 (hypothesis_numbered label w) ≡ h
      → step_named label w f h ≡ Ok s → w ≡ step_word t label s
  named_word w s (Some j) h ef eh n =
      let same : Float j ≡ s = cc in
      subst (λ (x : Step). w ≡ step_word t label x) same (float_word w (meaning t w) j refl ef)
  named_word w s None (Some i) ef eh n =
      let same : Hyp i ≡ s = cc in
      subst (λ (x : Step). w ≡ step_word t label x) same (numbered_word w (hypothesis_numbered label w) i refl eh)
  named_word w s None None ef eh n =
      let short = if_ok (ltb 255 (length w)) BadLabel _ s n in
      let apart = if_ok (is_dotted label w) LabelClashes (Ok (Cite w)) s short.1 in
      let same : Cite w ≡ s = let e : Ok (Cite w) ≡ Ok s = apart.1 in cc in
      subst (λ (x : Step). w ≡ step_word t label x) same refl

  -- a step is read from its own word
  other_word : (count : ℕ) (w : Word) (s : Step) → other_step_of t label count w ≡ Ok s → w ≡ step_word t label s
  unfolding other_step_of
  other_word count w s h =
      let both = no_fault (first_fault (step_tests count w)) _ s h in
      named_word w s (float_named (meaning t w)) (counted_from_0 (hypothesis_numbered label w)) refl refl both.1

  words_behind : (front : List Step) (ws : List Word) (steps : List Step) → OtherSteps t label front ws steps
      → map (step_word t label) front ++ ws ≡ map (step_word t label) steps
  words_behind front [] steps d = append-nil (map (step_word t label) front) ∙ ap (map (step_word t label)) d
  words_behind front (w ∷ ws) steps d =
      let f = step_word t label in
      let one : w ≡ f d.0 = other_word (length front) w d.0 d.1 in
      ap (λ v. map f front ++ v ∷ ws) one ∙ sym (append_assoc (map f front) (f d.0 ∷ []) ws)
      ∙ ap (λ vs. vs ++ ws) (sym (map-append f front (d.0 ∷ []))) ∙ words_behind (front ++ d.0 ∷ []) ws steps d.2

  pub other_words : (ws : List Word) (steps : List Step) → OtherSteps t label [] ws steps → ws ≡ map (step_word t label) steps
  other_words ws steps d = words_behind [] ws steps d

-- ---- and its steps are those of their words

module _ (t : Tables) (s : AreSound t) (label : Word) (some : label ≢ []) (is_l : is_label label ≡ true) where
  -- a step finds its own hypothesis, if it has one
  finds_numbered : (x : Step) → IsNameable t 1000 x → CitesApart label x
      → Finds x (counted_from_0 (hypothesis_numbered label (step_word t label x)))
  finds_numbered (Float j) h apart = tt
  finds_numbered (Hyp m) h apart =
      let within : m < 1000 = h in
      ap counted_from_0 (numbered_some label (hypothesis_label label (suc m)) (suc m) (omega arith) (omega arith) refl)
  finds_numbered (Cite w) h apart =
      ap counted_from_0 (numbered_none label w (λ j low high e.
      both_ways (is_dotted label w) apart (ap (is_dotted label) e ∙ dotted_is label j some low high)))

  other_again : (count : ℕ) (x : Step) → count < 16384 → IsNameable t 1000 x → CitesApart label x
      → other_step_of t label count (step_word t label x) ≡ Ok x
  unfolding other_step_of
  other_again count x room h apart =
      named_again t s label some is_l 1000 (omega arith) count x (counted_from_0 (hypothesis_numbered label (step_word t label x))) room h
      apart (finds_numbered x h apart)

  pub others_again : (front rest : List Step) → AllByRecursion (IsNameable t 1000) rest → AllByRecursion (CitesApart label) rest
      → length (front ++ rest) ≤ 16384 → OtherSteps t label front (map (step_word t label) rest) (front ++ rest)
  others_again front [] h apart few = sym (append-nil front)
  others_again front (x ∷ rest) h apart few =
      let more : (front ++ x ∷ []) ++ rest ≡ front ++ x ∷ rest = append_assoc front (x ∷ []) rest in (
        x,
        other_again (length front) x (omega (arith, length-append front (x ∷ rest))) h.0 apart.0,
        subst (OtherSteps t label (front ++ x ∷ []) (map (step_word t label) rest)) more
            (others_again (front ++ x ∷ []) rest h.1 apart.1 (subst (λ (ys : List Step). length ys ≤ 16384) (sym more) few)),
      )
