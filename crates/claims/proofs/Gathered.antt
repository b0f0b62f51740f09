-- What claimants claimed, once all of it is gathered in one seat.
use Rattle.std.proofs.Common.{◌≡◌, ◌≤◌, ◌+◌, ℕ, List, [], ◌∷◌, ◌++◌, Bool, true, if◌then◌else◌, All, IsPermutation, length, ◌⊎◌, inl, inr, ⊎_elim, sym, refl, ap, ◌∙◌, subst, arith}
use Rattle.std.proofs.lemmas.List.{append_assoc, append-nil, length-append}
use Rattle.std.proofs.lemmas.List.Elements.{All-head, All-tail}
use Rattle.std.proofs.lemmas.List.Sorted.{IsPermutation-refl, IsPermutation-trans, IsPermutation-sym, IsPermutation-append_left, IsPermutation-append_comm}
use Rattle.std.proofs.lemmas.Grind.{flat_map-append}
use mathlib.Core.Option.{some}
use lib.ListN.{get_elem?}
use Rattle.atomic_table.specs.Table.{State, Me}
use Rattle.atomic_table.specs.Seated.{TableId}
use Rattle.ranges.specs.Ranges.{Has}
use Rattle.claims.specs.Claims.{Counting, Claimant, claims_of, AreClaimed}
use Rattle.claims.specs.Rule.{View, joined, shown, SitsWith, with_claimant, gathered, all_claimed, all_parts, all_ended, IsFair, Ruled}
use Rattle.claims.proofs.Alike.{at_front}
use Rattle.claims.proofs.RuleSteps.{of_view, reordered, parts_of, ended_of}

abbrev Mine : Type 0
Mine = Me (Unit {0}) View

pub gathered_last : (me : Mine) (cs : List Claimant) (c : Claimant) → gathered me (cs ++ c ∷ []) ≡ gathered (with_claimant me c) cs
gathered_last me [] c = refl
gathered_last me (d ∷ ds) c = ap (λ (m : Mine). with_claimant m d) (gathered_last me ds c)

-- the seat of a claimant is joined as the claimant is gathered
pub gathered_seat : (me other : Mine) (table : TableId) (ended : Bool) → SitsWith other ended
    → (joined me.0 other.0, me.1) ≡ with_claimant me (shown table other.0 ended)
gathered_seat me other table ended sits = λ i. (
  record {
    parts = me.0.parts + sits.one i;
    count = me.0.count;
    claimed = me.0.claimed ++ other.0.claimed;
    ended = me.0.ended + sits.ended_is i;
  },
  me.1,
)

gathered_parts : (me : Mine) (cs : List Claimant) → (gathered me cs).0.parts ≡ me.0.parts + length cs
gathered_parts me [] = omega arith
gathered_parts me (c ∷ cs) = let h = gathered_parts me cs in omega (arith, h)

gathered_claims : (me : Mine) (cs : List Claimant) → IsPermutation (claims_of cs ++ me.0.claimed) (gathered me cs).0.claimed
gathered_claims me [] = IsPermutation-refl me.0.claimed
gathered_claims me (c ∷ cs) =
    let others : List ℕ = claims_of cs ++ me.0.claimed in
    subst (λ (l : List ℕ). IsPermutation l ((gathered me cs).0.claimed ++ c.claimed))
    (sym (append_assoc c.claimed (claims_of cs) me.0.claimed))
    (IsPermutation-trans (c.claimed ++ others) (others ++ c.claimed) ((gathered me cs).0.claimed ++ c.claimed)
    (IsPermutation-append_comm c.claimed others)
    (IsPermutation-append_left c.claimed others (gathered me cs).0.claimed (gathered_claims me cs)))

first_ended : (me : Mine) (cs : List Claimant) → me.0.ended ≤ (gathered me cs).0.ended
first_ended me [] = omega arith
first_ended me (c ∷ cs) = let h = first_ended me cs in omega (arith, h)

abbrev one_if : Bool → ℕ
one_if b = if b then 1 else 0

is_one : (b : Bool) → b ≡ true → one_if b ≡ 1
is_one b e = ap one_if e

gathered_ended : (me : Mine) (cs : List Claimant) (c : Claimant) → Has c cs → c.ended ≡ true → 1 ≤ (gathered me cs).0.ended
gathered_ended me [] c has told = absurd has
gathered_ended me (d ∷ ds) c has told = ⊎_elim
    (λ (e : c ≡ d). let one : one_if d.ended ≡ 1 = is_one d.ended (sym (ap (λ (x : Claimant). x.ended) e) ∙ told) in omega (arith, one))
    (λ (h : Has c ds). let rest : 1 ≤ (gathered me ds).0.ended = gathered_ended me ds c h told in omega (arith, rest)) has

has_last : {A : Type 0} (x y : A) (ys : List A) → Has x (ys ++ y ∷ []) → Has x ys ⊎ (x ≡ y)
has_last x y [] has = ⊎_elim (λ (e : x ≡ y). inr e) (λ h. absurd h) has
has_last x y (z ∷ zs) has = ⊎_elim (λ (e : x ≡ z). inl (inl e))
    (λ h. ⊎_elim (λ k. inl (inr k)) (λ e. inr e) (has_last x y zs h)) has

-- seats for nobody have claimed nothing
idle_claims : (vs : List View) → All IsFair vs → all_parts vs ≡ 0 → all_claimed vs ≡ []
idle_claims [] fair none = refl
idle_claims (v ∷ vs) fair none =
    let sum : v.parts + all_parts vs ≡ 0 = sym (parts_of v vs) ∙ none in
    let f : IsFair v = All-head IsFair v vs fair in
    ap (λ (l : List ℕ). l ++ all_claimed vs) (f.idle (omega (arith, sum))) ∙ idle_claims vs (All-tail IsFair v vs fair) (omega (arith, sum))

-- the last claimant's seat, to which the others gave what they have, has all there is
pub all_gathered : (home : Counting) (cs : List Claimant) (c : Claimant) (me : Mine) (s : State (Unit {0}) View) (id : ℕ)
    → Ruled home.count home.claimants s → get_elem? s.views id ≡ some (gathered me cs).0
    → me.0.parts ≡ 1 → me.0.claimed ≡ c.claimed → me.0.ended ≡ one_if c.ended
    → length (cs ++ c ∷ []) ≡ home.claimants → AreClaimed home (cs ++ c ∷ [])
all_gathered home cs c me s id r at one claimed ended long =
    let v : View = (gathered me cs).0 in
    let front = at_front of_view s.views id v at in
    let rest : List View = front.0 in
    let whole : Ruled home.count home.claimants (record { words = s.words; homes = s.homes; views = v ∷ rest }) =
    reordered home.count home.claimants s.words s.homes s.homes s.views (v ∷ rest) front.1 r in
    let parts : v.parts ≡ me.0.parts + length cs = gathered_parts me cs in
    let count : length cs + 1 ≡ home.claimants = sym (length-append cs (c ∷ [])) ∙ long in
    let idle : all_parts rest ≡ 0 = omega (arith, parts_of v rest, whole.parts, parts, count, one) in
    let is : all_claimed (v ∷ rest) ≡ v.claimed =
    ap (λ (l : List ℕ). v.claimed ++ l) (idle_claims rest (All-tail IsFair v rest whole.fair) idle) ∙ append-nil v.claimed in
    let claims : claims_of cs ++ me.0.claimed ≡ claims_of (cs ++ c ∷ []) =
    ap (λ (l : List ℕ). claims_of cs ++ l) (claimed ∙ sym (append-nil c.claimed))
    ∙ sym (flat_map-append (λ (x : Claimant). x.claimed) cs (c ∷ [])) in
    record {
      many = length (all_claimed (v ∷ rest));
      each = IsPermutation-trans _ (all_claimed (v ∷ rest)) _ whole.each
          (subst (λ (l : List ℕ). IsPermutation l (claims_of (cs ++ c ∷ []))) (sym is)
          (subst (IsPermutation v.claimed) claims (IsPermutation-sym _ _ (gathered_claims me cs))));
      within = whole.within;
      all = λ d has told.
          let some_ended : 1 ≤ v.ended = ⊎_elim (λ (h : Has d cs). gathered_ended me cs d h told)
          (λ (e : d ≡ c). let first = first_ended me cs in
          let one_ended : me.0.ended ≡ 1 = ended ∙ is_one c.ended (sym (ap (λ (x : Claimant). x.ended) e) ∙ told) in
          omega (arith, first, one_ended)) (has_last d c cs has) in
          ⊎_elim (λ (e : all_ended (v ∷ rest) ≡ 0). absurd (omega (arith, ended_of v rest, e, some_ended))) (λ e. e) whole.last;
    }
