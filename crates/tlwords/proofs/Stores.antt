-- A run that stores its values, one after another.
use Rattle.std.proofs.Common.{◌≡◌, ◌≢◌, ℕ, suc, ◌+◌, ◌<◌, ◌≤◌, ◌⊎◌, inl, inr, ⊎_elim, ◌||◌, true, Some, List, [], ◌∷◌, ◌++◌, length, sym}
use Rattle.std.proofs.Common.{refl, ap, ◌∙◌, subst, arith}
use Rattle.tlcore.specs.Seats.{find_held, is_next, all_settled, with_stored, reads_of, writes_of}
use Rattle.tlcore.specs.declared.seats.Held.{Held}
use Rattle.tlcore.specs.declared.seats.Phase.TheVariants.{Checking, Storing}
use Rattle.tlwords.specs.declared.log.Slot.{Slot}
use Rattle.tlwords.specs.Terms.{Terms}
use Rattle.tlwords.specs.Seen.{Work, Committed, IsDone}
use Rattle.tlwords.specs.Views.{View}
use Rattle.tlwords.specs.Plays.{Mine, Stores as StoresOne, MayStore, after_store, work_of}
use Rattle.tlwords.specs.Runs.{value_kept}
use Rattle.tlwords.specs.Commits.{writes_kept, work_kept}
use Rattle.tlwords.specs.Committing.{held_in, StoresTo}
use Rattle.tlwords.proofs.Seens.{seen_trans, done_grows}
use Rattle.tlwords.proofs.Held.{NoneKept, held_cell, held_find, held_stored, held_done, held_writes, no_writes, le_cases}

-- no value is kept for the cells from a to before c, for those at b and above either
pub unkept_both : (slots : List Slot) (a b c : ℕ) → NoneKept slots a b → NoneKept slots b c → NoneKept slots a c
unkept_both slots a b c p q x l m = ⊎_elim (λ (z : b ≤ x). q x z m) (λ (z : x < b). p x l z) (le_cases b x)

module _ {S N : Type 0} (terms : Terms S N) (slots : List Slot) (i : ℕ) (x : N) (m : Mine S N) where
  abbrev pub work : Work N
  work = work_kept m.0.seat slots x

  -- nothing is to be stored yet, or all values below `low` are stored
  abbrev pub StoresSoFar : ℕ → Mine S N → Type 0
  StoresSoFar low r = ((r ≡ m) × NoneKept slots 0 low) ⊎ StoresTo terms slots i work low m r

  module _ (upto : ℕ) (at : m.0.seat.phase ≡ Checking i upto) (held : m.0.seat.held ≡ held_in slots 0 0 (length slots)) (low : ℕ)
      (r : Mine S N)
      (so : StoresSoFar low r) where
    pub store_same : (r.0.setting ≡ m.0.setting) × (length r.0.base ≡ length m.0.base)
    store_same = ⊎_elim
        (λ (p : (r ≡ m) × NoneKept slots 0 low). (ap (λ (z : Mine S N). z.0.setting) p.0, ap (λ (z : Mine S N). length z.0.base) p.0))
        (λ (p : StoresTo terms slots i work low m r). (ap (λ (v : View S N). v.setting) p.is, ap (λ (v : View S N). length v.base) p.is)) so

    pub store_place : (is_next m.0.seat i || all_settled m.0.seat.held upto m.0.seat.reads) ≡ true → (j : ℕ) × MayStore r.0.seat j
    store_place may = ⊎_elim
        (λ (p : (r ≡ m) × NoneKept slots 0 low). subst (λ (z : Mine S N). (j : ℕ) × MayStore z.0.seat j) (sym p.0) (i, inl (upto, at, may)))
        (λ (p : StoresTo terms slots i work low m r). (i, inr (ap (λ (v : View S N). v.seat.phase) p.is))) so

    module _ (c v : ℕ) (b : c < length slots) (e : value_kept slots c ≡ Some v) where
      pub store_held : (k : Held) × (find_held c r.0.seat.held ≡ Some k) × (k.value ≡ v)
      store_held = ⊎_elim
          (λ (p : (r ≡ m) × NoneKept slots 0 low). (
            held_cell slots 0 c v,
            ap (λ (z : Mine S N). find_held c z.0.seat.held) p.0
                ∙ (ap (find_held c) held ∙ held_find slots 0 0 (length slots) c v (omega arith) b e),
            refl,
          ))
          (λ (p : StoresTo terms slots i work low m r). (
            held_cell slots low c v,
            ap (λ (w : View S N). find_held c w.seat.held) p.is
                ∙ held_find slots low 0 (length slots) c v (omega arith) b e,
            refl,
          )) so

      pub store_goes : (s : Mine S N) → m.0.note ≡ Some x → low ≤ c → NoneKept slots low c → StoresOne terms c r s → StoresSoFar (c + 1) s
      store_goes s noted l unkept t = inr (subst (λ (n : ℕ). StoresTo terms slots i work n m s) (let a : suc c ≡ c + 1 = omega arith in a)
          (⊎_elim (λ (p : (r ≡ m) × NoneKept slots 0 low). first p.1 (subst (λ (z : Mine S N). StoresOne terms c z s) p.0 t)) next so))
        where
          same_work : work_of m.0.seat x ≡ work
          same_work = λ j. record {
            reads = reads_of m.0.seat.reads;
            writes = (ap writes_of held ∙ held_writes slots 0 (length slots)) j;
            note = x;
          }

          first : NoneKept slots 0 low → StoresOne terms c m s → StoresTo terms slots i work (suc c) m s
          first before t =
              let f : IsDone s.0.seen i (work_of m.0.seat x)
              × (s.0 ≡ record m.0 {
                seen = s.0.seen;
                seat = after_store m.0.seat i c;
                mine =
                    m.0.mine ++ Committed (suc i) (work_of m.0.seat x) ∷ [];
              }) = t.first i upto x at noted in
              record {
                sees = t.sees;
                done = subst (λ (w : Work N). IsDone s.0.seen i w) same_work f.0;
                is = f.1 ∙ (λ j. let w : View S N = record m.0 {
                  seen = s.0.seen;
                  seat = record m.0.seat {
                    phase = Storing i;
                    held =
                        (ap (with_stored c) held ∙ held_stored slots 0 0 (length slots) c (omega arith)
                        (unkept_both slots 0 low c before unkept))
                        j;
                    looked = sym (ap (λ (v : View S N). v.seat.looked) f.1) j;
                  };
                  mine = m.0.mine ++ Committed (suc i) (same_work j) ∷ [];
                } in w);
              }

          next : StoresTo terms slots i work low m r → StoresTo terms slots i work (suc c) m s
          next p =
              let e : s.0 ≡ record r.0 { seen = s.0.seen; seat = after_store r.0.seat i c } =
              t.next i (ap (λ (v : View S N). v.seat.phase) p.is) in
              record {
                sees = record {
                  own = seen_trans m.0.seen r.0.seen s.0.seen p.sees.own t.sees.own;
                  told = seen_trans m.0.told.seen r.0.seen s.0.seen p.sees.told t.sees.own;
                  sound = t.sees.sound;
                };
                done = done_grows r.0.seen s.0.seen i work t.sees.own p.done;
                is = e ∙ (ap (λ (v : View S N). let w : View S N = record v { seen = s.0.seen; seat = after_store v.seat i c } in w) p.is
                    ∙ (λ j. let w : View S N = record m.0 {
                      seen = s.0.seen;
                      seat = record m.0.seat {
                        phase = Storing i;
                        held = held_stored slots low 0 (length slots) c l unkept j;
                        looked = sym (ap (λ (v : View S N). v.seat.looked) e) j;
                      };
                      mine = m.0.mine ++ Committed (suc i) work ∷ [];
                    } in w));
              }

    pub store_ends : writes_kept slots ≢ [] → NoneKept slots low (length slots) → StoresTo terms slots i work (length slots) m r
    store_ends some unkept = ⊎_elim
        (λ (p : (r ≡ m) × NoneKept slots 0 low). absurd (some
        (no_writes slots (length slots) (unkept_both slots 0 low (length slots) p.1 unkept))))
        (λ (p : StoresTo terms slots i work low m r). record {
          sees = p.sees;
          done = p.done;
          is = p.is ∙ (λ j. let w : View S N = record m.0 {
            seen = r.0.seen;
            seat = record m.0.seat {
              phase = Storing i;
              held = held_done slots low (length slots) 0 (length slots) (omega arith) unkept j;
              looked = r.0.seat.looked;
            };
            mine = m.0.mine ++ Committed (suc i) work ∷ [];
          } in w);
        }) so
