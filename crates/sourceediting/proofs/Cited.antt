-- How many entries labels take that the proofs of the edited library cite.
use Rattle.std.proofs.Common.{◌≡◌, ◌∙◌, ◌≤◌, ◌+◌, ℕ, Bool, true, false, cond, List, length, Some, inl, inr, refl, sym, ap, subst, arith}
use Rattle.std.specs.Prelude.{Contains, slice_get}
use Rattle.std.proofs.lemmas.Bool.{cases_lt}
use Rattle.std.proofs.lemmas.List.{length-map}
use Rattle.std.proofs.lemmas.Option.{same_Some}
use Rattle.mmsyntax.specs.declared.statement.Step.TheVariants.{Float, Hyp, Cite}
use Rattle.sourcewriting.specs.Counting.{IsCountOf}
use Rattle.std.specs.Str.{bytes_eq}
use Rattle.std.specs.Borrow.{Bor}
use Rattle.std.specs.HashMap as hash
use Rattle.std.specs.HashMap.{HashMap}
use Rattle.std.specs.declared.random_state.RandomState.{RandomState}
use Rattle.std.proofs.lemmas.Map.Text.{hash_map_updates_str}
use Rattle.mmtext.specs.Words.{Word}
use Rattle.source.specs.Scopes.{Scope}
use Rattle.source.specs.Views.{seen_words}
use Rattle.sourcewriting.specs.declared.listing.Cited.{Cited}
use Rattle.sourcewriting.specs.declared.listing.Names.{Names}
use Rattle.sourceediting.specs.Following.{Followed}
use Rattle.sourceediting.specs.Entries.{Edition, HasOnly, float_labels}
use Rattle.sourceediting.specs.Views.{AreCitedThen, AreCitedNow, AreStepsOf, IsCitedAs, AreNamesOf}
use Rattle.sourceediting.proofs.Labelled.{new_found, still_found, placed}

module _ (s : Scope) (e : Edition) (living : List Followed) where
  abbrev is_one : Cited → Type 0
  is_one c = (f : Followed) × Contains living f × IsCitedAs s e f c

  module _ (m n : HashMap (Bor (List ℕ)) Cited RandomState) (x : Word) (v : Cited) (found : AreCitedThen s e living m) (is : is_one v) where
    at : (w : Word) (c : Cited) (b : Bool) → bytes_eq x w ≡ b → cond b (Some v) (hash.get_by (λ k. bytes_eq w k.now) m) ≡ Some c → is_one c
    at w c true eq h = let same : v ≡ c = cc in subst is_one same is
    at w c false eq h = found w c h

    -- one more is found
    pub cited_more : hash.UpdatesBy (λ x y. bytes_eq x.now y.now) (λ k. bytes_eq x k.now) m n (Some v) → AreCitedThen s e living n
    cited_more updates w c h = at w c (bytes_eq x w) refl (sym (hash_map_updates_str x m n (Some v) updates w) ∙ h)

  -- ---- of those that live, each is found

  -- one more is
  pub cited_now_more : (m n : HashMap (Bor (List ℕ)) Cited RandomState) (f : Followed) (v : Cited) (count : ℕ)
      → AreCitedNow s e living m count → slice_get living count ≡ Some f → Contains living f
      → ((k : ℕ) → HasOnly s e f.now f.source k → IsCountOf s v.kinds k)
      → hash.UpdatesBy (λ x y. bytes_eq x.now y.now) (λ k. bytes_eq f.now k.now) m n (Some v) → AreCitedNow s e living n (count + 1)
  cited_now_more m n f v count was at lives counts updates = record {
    found = λ w c here.
        elim (new_found m n f.now v updates w c here) [
          | inl new ↦ (f, lives, new.0, λ k has. subst (λ (c : Cited). IsCountOf s c.kinds k) new.1 (counts k has))
          | inr old ↦ was.found w c old
        ];
    there = λ k g here low o has.
        elim (cases_lt k count) [
          | inl h ↦ let one = was.there k g here h o has in still_found m n f.now v updates g.now one.0 one.1
          | inr above ↦
              let same : k ≡ count = omega (arith, low, above) in
              let is : f ≡ g = same_Some f g (sym at ∙ ap (slice_get living) (sym same) ∙ here) in
              (v, subst (λ (x : Followed). hash.get_by (λ k. bytes_eq x.now k.now) n ≡ Some v) is updates.1)
        ];
  }

  -- one that isn't has no number of hypotheses
  pub cited_now_less : (m : HashMap (Bor (List ℕ)) Cited RandomState) (f : Followed) (count : ℕ) → AreCitedNow s e living m count
      → slice_get living count ≡ Some f → ((k : ℕ) → HasOnly s e f.now f.source k → ⊥) → AreCitedNow s e living m (count + 1)
  cited_now_less m f count was at none = record {
    found = was.found;
    there = λ k g here low o has.
        elim (cases_lt k count) [
          | inl h ↦ was.there k g here h o has
          | inr above ↦
              let same : k ≡ count = omega (arith, low, above) in
              let is : g ≡ f = same_Some g f (sym here ∙ ap (slice_get living) same ∙ at) in
              absurd (none o (subst (λ (x : Followed). HasOnly s e x.now x.source o) is has))
        ];
  }

  -- so steps take as many as they do then
  pub known_steps : (m : Names) (count : ℕ) → seen_words m.floats.items ≡ float_labels e → AreCitedNow s e living m.cited count
      → length living ≤ count → AreStepsOf s e living m
  known_steps m count floats cited all premises (Float i) n takes =
      let many = length-map m.floats.items (λ (w : Bor (List ℕ)). w.now) in (omega (arith, takes.0, ap length floats, many), takes.1)
  known_steps m count floats cited all premises (Hyp k) n takes = takes
  known_steps m count floats cited all premises (Cite label) n takes =
      let place = placed living takes.followed takes.lives in
      let one = cited.there place.0 takes.followed place.2 (omega (arith, place.1, all)) n
      (takes.many takes.followed takes.lives takes.now) in
      let found = subst (λ w. hash.get_by (λ k. bytes_eq w k.now) m.cited ≡ Some one.0) takes.now one.1 in
      let is = cited.found label one.0 found in
      record { cited = one.0; found = found; many = is.3 n (takes.many is.0 is.1 is.2) }

  -- the labels that steps name
  module _ (m : Names) (floats : seen_words m.floats.items ≡ float_labels e) (cited : AreCitedThen s e living m.cited) where
    pub known_names : AreNamesOf s e living m
    known_names hypotheses label n (inl by) =
        let one = cited by.name by.cited by.found in
        inl (record {
          followed = one.0;
          lives = one.1;
          labelled = sym one.2.labelled ∙ by.labelled;
          many = one.2.many n by.many;
        })
    known_names hypotheses label n (inr none) =
        inr (record {
          stands = elim none.stands [
            | inl h ↦ inl (subst (λ ws. Contains ws label) floats h)
            | inr h ↦ inr h
          ];
          none = none.none;
        })
