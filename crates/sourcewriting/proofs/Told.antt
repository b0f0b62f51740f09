-- Which labels take how many entries, while the nodes of a proof are made.
use Rattle.std.proofs.Common.{◌≡◌, ◌⊎◌, ◌<◌, ℕ, zero, suc, List, [], ◌∷◌, length, map, get_or, refl, sym, ap, subst, ◌∙◌, inl, inr, arith}
use Rattle.std.specs.Prelude.{All, Contains, Option, Some, None, slice_get}
use Rattle.std.specs.Option.{option_map}
use Rattle.std.specs.Borrow.{Bor}
use Rattle.std.specs.Str.{bytes_eq}
use Rattle.std.specs.HashMap.{get_by}
use Rattle.std.proofs.lemmas.List.Elements.{Contains-get_or}
use Rattle.std.proofs.lemmas.Option.{slice_get_within, slice_get-get_or, slice_get-map}
use Rattle.mmtext.specs.Words.{Word}
use Rattle.source.specs.Scopes.{Hypothesis, typing, premise, label_of, Scope}
use Rattle.source.specs.Views.{seen_words}
use Rattle.taking.specs.Listings.{premise_labels}
use Rattle.sourcewriting.specs.declared.listing.Cited.{Cited}
use Rattle.sourcewriting.specs.declared.listing.Names.{Names}
use Rattle.sourcewriting.specs.declared.shared.Shared.{Shared}
use Rattle.sourcewriting.specs.Counting.{Takes}
use Rattle.sourcewriting.specs.Taking.{AllTake, MayTakeMore, MayTakeNone}
use Rattle.sourcewriting.proofs.Counted.{all_one_more}

-- what stands at a place is there
pub contained : {A : Type 0} (xs : List A) (i : ℕ) (x : A) → slice_get xs i ≡ Some x → Contains xs x
contained xs i x is =
    let h = slice_get_within xs i x is in
    let e : Some (get_or xs i x) ≡ Some x = sym (slice_get-get_or xs i x h) ∙ is in
    let same : get_or xs i x ≡ x = cc in
    subst (Contains xs) same (Contains-get_or xs i x h)

-- and among words
pub word_there : (words : List (Bor (List ℕ))) (i : ℕ) (w : Bor (List ℕ)) → slice_get words i ≡ Some w → Contains (seen_words words) w.now
word_there words i w is =
    contained (seen_words words) i w.now
    (slice_get-map (λ (w : Bor (List ℕ)). w.now) words i ∙ ap (option_map (λ (w : Bor (List ℕ)). w.now)) is)

-- the label of a $e is that of a hypothesis
pub premise_there : (hs : List Hypothesis) (w : Word) → Contains (premise_labels hs) w → Contains (map label_of hs) w
premise_there [] w has = has
premise_there (typing label c v ∷ hs) w has =
    let rest = premise_there hs w has in
    let h : rest.0 < length (map label_of hs) = rest.1 in (suc rest.0, omega arith, rest.2)
premise_there (premise label ws ∷ hs) w (zero, h, e) = (zero, omega arith, e)
premise_there (premise label ws ∷ hs) w (suc k, h, e) =
    let rest = premise_there hs w (k, omega arith, e) in
    let g : rest.0 < length (map label_of hs) = rest.1 in (suc rest.0, omega arith, rest.2)

module _ (s : Scope) (m : Names) (hs : List Hypothesis) (old new : Shared) (all : AllTake s m hs old) where
  -- the label of a hypothesis is put, if there is one
  pub put_none : (label : Option (Bor (List ℕ)))
      → ((w : Bor (List ℕ)) → label ≡ Some w → Contains (seen_words m.floats.items) w.now ⊎ Contains (map label_of hs) w.now)
      → MayTakeNone label old new → AllTake s m hs new
  put_none None stands same = subst (All (λ p. Takes s m hs p.0 p.1)) (sym same) all
  put_none (Some w) stands more =
      all_one_more (λ p. Takes s m hs p.0 p.1) old.words.items new.words.items w.now 0 all
      (inr (record { stands = stands w refl; none = refl })) more

  -- the label of an assertion is
  pub put_cited : (name : Word) (c : Cited) → get_by (λ k. bytes_eq name k.now) m.cited ≡ Some c → MayTakeMore s c old new
      → AllTake s m hs new
  put_cited name c found (inl same) = subst (All (λ p. Takes s m hs p.0 p.1)) (sym same) all
  put_cited name c found (inr more) =
      all_one_more (λ p. Takes s m hs p.0 p.1) old.words.items new.words.items c.label.now more.0 all
      (inl (record { name = name; cited = c; found = found; labelled = refl; many = more.1 })) more.2
