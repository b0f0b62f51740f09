-- A walk along a chain to a slot, and what is written where it ends.
use Rattle.std.proofs.Common.{◌≡◌, ◌≢◌, ℕ, ◌+◌, ◌<◌, ◌≤◌, List, [], ◌∷◌, length, sym, ap, subst, ◌∙◌}
use Rattle.std.proofs.Common.{⊎_elim, arith, nat_eq}
use Rattle.std.specs.Prelude.{◌==◌}
use Rattle.std.proofs.lemmas.Bool.{cond-true, cond-false, eq-eqb, ne_eqb}
use Rattle.mmsyntax.specs.Assertions.{Distinct}
use Rattle.library.specs.declared.library.Ranked.{Ranked}
use Rattle.library.specs.Library.{label_of}
use Rattle.ranges.specs.Ranges.{Has}
use Rattle.cells.specs.State.{State, with_value}
use Rattle.cells.specs.Slots.{bucket_cell, next_cell, bucket}
use Rattle.cells.specs.Shows.{Held, slots_of, of_bucket, IsChain, AreChained}
use Rattle.cells.specs.Sight.{Sight, Writes, after}
use Rattle.chains.specs.Chains.{Rechains, without_slot}
use Rattle.ranges.proofs.Members.{has_permutation}
use Rattle.cells.proofs.Linking.{chain_few}
use Rattle.chains.proofs.Fronting.{PutsFront, put_front}
use Rattle.chains.proofs.Unlinking.{leading, leading_is, TakesOut, unlink}
use Rattle.cells.proofs.Values.{value_there, value_elsewhere}
use Rattle.cells.proofs.Sights.{after_writes}

-- ---- into a chain

-- what is written to put a slot in front of the chain of a bucket, with what was written before
pub puts_front : {O : Type 0} → (old mid new : Sight O) (st : State) (front link first slot b : ℕ) (s : Sight O)
    → after s st ≡ after old st → Writes link first s mid → Writes front (slot + 1) mid new
    → front ≡ bucket_cell old.setting.slots b → link ≡ next_cell old.setting.slots slot → first ≡ (after old st).value front
    → b < old.setting.slots → PutsFront old.setting.slots (after old st) (after new st) slot b
puts_front old mid new st front link first slot b s same links fronts front_is link_is first_is in_buckets =
    subst (λ (x : State). PutsFront old.setting.slots (after old st) x slot b) (sym made) (record {
      front = ap (with_value front (slot + 1) (with_value link first (after old st))).value (sym front_is)
          ∙ value_there front (slot + 1) (with_value link first (after old st));
      link = ap (with_value front (slot + 1) (with_value link first (after old st))).value (sym link_is)
          ∙ value_elsewhere front (slot + 1) (with_value link first (after old st)) link
          (λ z. omega (arith, front_is, link_is, in_buckets, z))
          ∙ value_there link first (after old st) ∙ first_is ∙ ap (after old st).value front_is;
      others = λ c f l. value_elsewhere front (slot + 1) (with_value link first (after old st)) c (λ z. f (z ∙ front_is))
          ∙ value_elsewhere link first (after old st) c (λ z. l (z ∙ link_is));
    })
  where
    made : after new st ≡ with_value front (slot + 1) (with_value link first (after old st))
    made = after_writes front (slot + 1) mid new st fronts
        ∙ ap (with_value front (slot + 1)) (after_writes link first s mid st links ∙ ap (with_value link first) same)

-- so a slot that is in no chain comes into the one of its label
pub in_front : {O : Type 0} → (old mid new : Sight O) (st : State) (front link first slot : ℕ) (label : List ℕ) (held : List Held)
    (e : Ranked) (s : Sight O)
    → after s st ≡ after old st → Writes link first s mid → Writes front (slot + 1) mid new
    → front ≡ bucket_cell old.setting.slots (bucket old.setting.slots label) → link ≡ next_cell old.setting.slots slot
    → first ≡ (after old st).value front → slot < old.setting.slots → bucket old.setting.slots label < old.setting.slots
    → AreChained old.setting.slots (after old st) held → label_of e ≡ label → (Has slot (slots_of held) → ⊥)
    → Rechains old.setting.slots (after old st) (after new st) held (record { slot = slot; entry = e } ∷ held)
in_front old mid new st front link first slot label held e s same links fronts front_is link_is first_is in_slots in_buckets chained
    label_is free =
    put_front slots (after old st) (after new st) held slot e in_slots
    (subst (λ (l : List ℕ). bucket slots l < slots) (sym label_is) in_buckets) chained free
    (subst (λ (l : List ℕ). PutsFront slots (after old st) (after new st) slot (bucket slots l)) (sym label_is) puts)
  where
    slots : ℕ
    slots = old.setting.slots

    puts : PutsFront old.setting.slots (after old st) (after new st) slot (bucket old.setting.slots label)
    puts = puts_front old mid new st front link first slot
        (bucket old.setting.slots label) s same links fronts front_is link_is first_is in_buckets

-- ---- along a chain

-- the chain goes on from this cell to the slot, by the cell that leads to it, and at most as many slots are left as the walk may still take
pub record Walks (slots slot : ℕ) (st : State) (to before done : ℕ) : Type 0 where
  pub rest : List ℕ
  pub chain : IsChain slots st rest (st.value before)
  pub has : Has slot rest
  pub long : length rest + done ≤ slots
  pub leads : leading slots slot before rest ≡ to

module _ (slots slot : ℕ) (st : State) (to : ℕ) where
  pub walk_begins : (held : List Held) (b : ℕ) (lt : b < slots) (chained : AreChained slots st held)
      → Has slot (slots_of (of_bucket slots b held)) → length held ≤ slots
      → leading slots slot (bucket_cell slots b) (chained b lt).chain ≡ to
      → Walks slots slot st to (bucket_cell slots b) 0
  walk_begins held b lt chained has few is =
      let c = chained b lt in
      let short = chain_few slots st held b c in
      record {
        rest = c.chain;
        chain = c.starts;
        has = has_permutation _ _ slot c.has has;
        long = omega (arith, few, short);
        leads = is;
      }

  -- a word that leads nowhere is not met
  pub walk_goes : (before done : ℕ) → Walks slots slot st to before done → ((i : ℕ) → i < slots → st.value before ≡ i + 1 → ⊥) → ⊥
  walk_goes before done w nowhere = at w.rest w.chain w.has
    where
      at : (rest : List ℕ) → IsChain slots st rest (st.value before) → Has slot rest → ⊥
      at [] h has = has
      at (i ∷ is) h has = nowhere i h.0 h.1

  -- the slot is met at the cell that leads to it
  pub walk_found : (before done : ℕ) → Walks slots slot st to before done → st.value before ≡ slot + 1 → before ≡ to
  walk_found before done w is = at w.rest w.chain w.has w.leads
    where
      at : (rest : List ℕ) → IsChain slots st rest (st.value before) → Has slot rest → leading slots slot before rest ≡ to → before ≡ to
      at [] h has leads = absurd has
      at (i ∷ is') h has leads =
          let e : i ≡ slot = let z = h.1 in omega (arith, z, is) in
          sym (cond-true (i == slot) before (leading slots slot (next_cell slots i) is') (eq-eqb i slot e)) ∙ leads

  pub walk_on : (before done member : ℕ) → Walks slots slot st to before done → st.value before ≡ member + 1 → member ≢ slot
      → Walks slots slot st to (next_cell slots member) (done + 1)
  walk_on before done member w is other = at w.rest w.chain w.has w.long w.leads
    where
      at : (rest : List ℕ) → IsChain slots st rest (st.value before) → Has slot rest → length rest + done ≤ slots
          → leading slots slot before rest ≡ to
          → Walks slots slot st to (next_cell slots member) (done + 1)
      at [] h has long leads = absurd has
      at (i ∷ is') h has long leads =
          let e : i ≡ member = let z = h.1 in omega (arith, z, is) in
          let ne : i ≢ slot = λ z. other (sym e ∙ z) in
          subst (λ n. Walks slots slot st to (next_cell slots n) (done + 1)) e
          (record {
            rest = is';
            chain = h.2;
            has = ⊎_elim (λ z. absurd (ne (sym z))) (λ z. z) has;
            long = omega (arith, long);
            leads = sym (cond-false (i == slot) before (leading slots slot (next_cell slots i) is') (ne_eqb i slot ne)) ∙ leads;
          })

  -- it does not take as many steps as there are slots
  pub walk_ends : (before done : ℕ) → Walks slots slot st to before done → slots ≤ done → ⊥
  walk_ends before done w all = at w.rest w.has w.long
    where
      at : (rest : List ℕ) → Has slot rest → length rest + done ≤ slots → ⊥
      at [] has long = has
      at (i ∷ is) has long = omega (arith, long, all)

-- ---- out of a chain

-- what is written to take a slot out of its chain, with what was written before
pub taken_out : {O : Type 0} → (old mid new s : Sight O) (st : State) (before link next slot : ℕ) (held : List Held) (e : Ranked) (b : ℕ)
    → after s st ≡ after old st → Writes before next s mid → Writes link 0 mid new → link ≡ next_cell old.setting.slots slot
    → next ≡ (after old st).value link → (lt : b < old.setting.slots) → (chained : AreChained old.setting.slots (after old st) held)
    → Distinct nat_eq (slots_of held) → Has slot (slots_of (of_bucket old.setting.slots b held))
    → before ≡ leading old.setting.slots slot (bucket_cell old.setting.slots b) (chained b lt).chain
    → Rechains old.setting.slots (after old st) (after new st) held (without_slot slot held)
taken_out old mid new s st before link next slot held e b same passes ends link_is next_is lt chained distinct own before_is =
    unlink old.setting.slots slot (after old st) (after new st) held b lt chained distinct own
    (subst (TakesOut old.setting.slots slot (after old st) (after new st)) before_is takes)
  where
    made : after new st ≡ with_value link 0 (with_value before next (after old st))
    made = after_writes link 0 mid new st ends
        ∙ ap (with_value link 0) (after_writes before next s mid st passes ∙ ap (with_value before next) same)

    apart : before ≢ link
    apart z =
        ⊎_elim
        (λ first. omega (arith, lt, first, before_is, link_is, z))
        (λ (r : (j : ℕ) × Has j (chained b lt).chain × (j ≢ slot)
        × (leading old.setting.slots slot (bucket_cell old.setting.slots b) (chained b lt).chain ≡ next_cell old.setting.slots j)).
        let at = r.3 in r.2 (omega (arith, at, before_is, link_is, z)))
        (leading_is old.setting.slots slot (bucket_cell old.setting.slots b) (chained b lt).chain)

    takes : TakesOut old.setting.slots slot (after old st) (after new st) before
    takes = subst (λ (x : State). TakesOut old.setting.slots slot (after old st) x before) (sym made) (record {
      past = value_elsewhere link 0 (with_value before next (after old st)) before apart ∙ value_there before next (after old st) ∙ next_is
          ∙ ap (after old st).value link_is;
      gone = ap (with_value link 0 (with_value before next (after old st))).value (sym link_is)
          ∙ value_there link 0 (with_value before next (after old st));
      others = λ c f l. value_elsewhere link 0 (with_value before next (after old st)) c (λ z. l (z ∙ link_is))
          ∙ value_elsewhere before next (after old st) c f;
    })
