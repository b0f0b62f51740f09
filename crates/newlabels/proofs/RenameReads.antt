-- Which cells `rename` reads, from what its parts read.
use Rattle.std.proofs.Common.{◌≡◌, ◌≢◌, ◌<◌, ℕ, List, subst, inl, inr, ⊎_elim, arith}
use Rattle.library.specs.declared.command.Command.TheVariants.{Rename}
use Rattle.library.specs.Library.{Setting}
use Rattle.cells.specs.State.{State}
use Rattle.cells.specs.Slots.{name_cell}
use Rattle.cells.specs.Sight.{Sight, Onward, ReadsWithin, after}
use Rattle.cells.specs.Aside.{IsOfFront}
use Rattle.cells.specs.Footprints.{ReadsWhere, IsOfTakingOut}
use Rattle.cells.proofs.Asking.{asks_wider}
use Rattle.cells.proofs.Sights.{setting_kept}
use Rattle.groundwork.proofs.Since.{ReadsSince, OfCommandFound, since_then, taking_out, look_before}

-- ---- the slot gets the label

module _ {O : Type 0} (s0 s1 : Sight O) (i : ℕ) (from to : List ℕ) where
  pub relabel_name : ReadsWithin (λ c. c ≡ name_cell i) s0 s1 → ReadsSince (OfCommandFound s0 i from (Rename from to)) s0 s0 s1
  relabel_name reads st lib m v = asks_wider (λ c is at. inr (inr (i, at, inl is))) reads

  pub relabel_out : (s2 : Sight O) → Onward s0 s1 → Onward s1 s2 → i < s0.setting.slots
      → ((st : State) (c : ℕ) → c ≢ name_cell i → (after s1 st).value c ≡ (after s0 st).value c)
      → ReadsWhere (IsOfTakingOut s1.setting.slots i from) s1 s2 → ReadsSince (OfCommandFound s0 i from (Rename from to)) s0 s0 s1
      → ReadsSince (OfCommandFound s0 i from (Rename from to)) s0 s0 s2
  relabel_out s2 on1 on2 within others reads before =
      since_then (OfCommandFound s0 i from (Rename from to)) before on2 (λ st lib m v.
      asks_wider (λ c is at.
      ⊎_elim (λ own. inr (inr (i, at, inr own)))
      (λ look. inl (look_before s0.setting.slots (after s0 st) (after s1 st)
      (λ k low. others st k (λ z. omega (arith, low, within, z))) from c look))
      (taking_out s0.setting.slots i from (after s1 st) c
      (subst (λ (x : Setting). IsOfTakingOut x.slots i from (after s1 st) c) (setting_kept on1) is)))
      (reads.each st m))

  pub relabel_in : (s2 : Sight O) → Onward s0 s1 → Onward s1 s2 → ReadsWithin (IsOfFront s1.setting.slots i to) s1 s2
      → ReadsSince (OfCommandFound s0 i from (Rename from to)) s0 s0 s1 → ReadsSince (OfCommandFound s0 i from (Rename from to)) s0 s0 s2
  relabel_in s2 on1 on2 reads before =
      since_then (OfCommandFound s0 i from (Rename from to)) before on2 (λ st lib m v.
      asks_wider (λ c is at.
      ⊎_elim (λ front. inr (inl (inl (inl front)))) (λ own. inr (inr (i, at, inr own)))
      (subst (λ (x : Setting). IsOfFront x.slots i to c) (setting_kept on1) is)) reads)
