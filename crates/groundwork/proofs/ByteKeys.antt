-- A tree map whose keys are byte vectors, after a change at one key.
use Rattle.std.proofs.Common.{◌≡◌, ◌≢◌, ℕ, Bool, true, false, List, Option, Vec, sym, ◌∙◌}
use Rattle.std.specs.declared.alloc.Global.{Global}
use Rattle.std.specs.Ordering.{is_eq, nat_cmp}
use Rattle.std.specs.Cmp.{eq_by_cmp_equiv}
use Rattle.std.specs.Cmp.Lexicographic.{slice_cmp, nat_list_cmp_total}
use Rattle.std.specs.Str.{bytes_eq}
use Rattle.std.specs.BTreeMap.{BTreeMap, get_by, UpdatesBy}
use Rattle.std.specs.Map.{lookup, IsKeyTest, AreApart, KeepsOthers}
use Rattle.std.proofs.lemmas.Bool.{false_from_ne_true}
use Rattle.std.proofs.lemmas.Map.Text.{is_eq-slice_cmp}
use Rattle.mmsyntax.proofs.Names.{same_bytes}

-- which keys the bytes find, other bytes do not
apart_in_order : (bs cs ks : List ℕ) → cs ≢ bs → is_eq (slice_cmp nat_cmp bs ks) ≡ true → is_eq (slice_cmp nat_cmp cs ks) ≡ false
apart_in_order bs cs ks ne y =
    is_eq-slice_cmp cs ks
    ∙ false_from_ne_true (bytes_eq cs ks)
    (λ z. ne (same_bytes cs ks z ∙ sym (same_bytes bs ks (sym (is_eq-slice_cmp bs ks) ∙ y))))

module _ {K : Type 0} (eq : K → K → Bool) (test : K → Bool) where
  other_entries : {X : Type 0} (old new : List (K × X)) → KeepsOthers eq test old new → (other : K → Bool) → IsKeyTest eq other
      → AreApart test other → lookup other new ≡ lookup other old
  unfolding KeepsOthers
  other_entries old new h = h

-- other bytes find what they found
pub found_elsewhere : {X : Type 0} (bs : List ℕ) (m n : BTreeMap (Vec ℕ Global) X) (w : Option X)
    → UpdatesBy (λ x y. slice_cmp nat_cmp x.items y.items) (λ x. slice_cmp nat_cmp bs x.items) m n w
    → (cs : List ℕ) → cs ≢ bs → get_by (λ q. slice_cmp nat_cmp cs q.items) n ≡ get_by (λ q. slice_cmp nat_cmp cs q.items) m
found_elsewhere bs m n w h cs ne =
    other_entries _ _ _ _ h.3 _ (λ x y. (eq_by_cmp_equiv nat_list_cmp_total).congr cs x.items y.items)
    (λ q. apart_in_order bs cs q.items ne)
