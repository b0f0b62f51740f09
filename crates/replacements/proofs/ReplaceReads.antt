-- Which cells `replace` reads, one call after another.
use Rattle.std.proofs.Common.{◌≡◌, ◌⊎◌, ℕ, List, Some, map, inl, inr, ⊎_elim}
use Rattle.library.specs.declared.command.Command.TheVariants.{Replace}
use Rattle.bodystore.specs.declared.stored.StoredStep.{StoredStep}
use Rattle.cells.specs.Slots.{statement_cell, proof_cell, rank_cell}
use Rattle.cells.specs.Sight.{Sight, Onward, Looks, ReadsWithin}
use Rattle.cells.specs.Footprints.{ReadsWhere, IsOfLook}
use Rattle.cells.specs.Lookups.{Finds}
use Rattle.cells.proofs.Resolving.{finds_after}
use Rattle.cells.proofs.Sights.{looks_trans}
use Rattle.cells.proofs.Asking.{asks_wider}
use Rattle.groundwork.specs.Touches.{Touches}
use Rattle.groundwork.specs.Footprints.{ReadsFor, ReprovesReading}
use Rattle.replacements.specs.Replacing.{recited_step}
use Rattle.replacements.proofs.Replaced.{Sought, replace_reads}
use Rattle.groundwork.proofs.Since.{OfCommand, since_then, since_where, since_before, found_before, first_look, then_cells}

module _ {O : Type 0} (s0 s t : Sight O) (i j k : ℕ) (label old new : List ℕ) (kept : List StoredStep)
    (known : Sought i j k label old new kept s0 s) (on : Onward s t) (before : ReadsFor s0 s (Replace label old new)) where
  -- the statements of both
  pub replace_alike : ReadsWithin (λ c. (c ≡ statement_cell j) ⊎ (c ≡ statement_cell k)) s t → ReadsFor s0 t (Replace label old new)
  replace_alike reads =
      since_then (OfCommand s0 (Replace label old new)) before on (λ st lib m v.
      let at_old = found_before (OfCommand s0 (Replace label old new)) s0 s t known.looks old j known.finds_old on st lib m v in
      let at_new = found_before (OfCommand s0 (Replace label old new)) s0 s t known.looks new k known.finds_new on st lib m v in
      asks_wider (λ c is. ⊎_elim (λ one. inr (inr (inl (j, at_old, one))))
      (λ other. inr (inr (inr (inl (k, at_new, inl other))))) is) reads)

  -- the ranks of the theorem and of the new one
  pub replace_ranks : ReadsWithin (λ c. (c ≡ rank_cell i) ⊎ (c ≡ rank_cell k)) s t → ReadsFor s0 t (Replace label old new)
  replace_ranks reads =
      since_then (OfCommand s0 (Replace label old new)) before on (λ st lib m v.
      let at = found_before (OfCommand s0 (Replace label old new)) s0 s t known.looks label i known.finds on st lib m v in
      let at_new = found_before (OfCommand s0 (Replace label old new)) s0 s t known.looks new k known.finds_new on st lib m v in
      asks_wider (λ c is. ⊎_elim (λ one. inr (inl (i, at, one))) (λ other. inr (inr (inr (inl (k, at_new, inr other))))) is) reads)

  -- and what another proof of the theorem reads
  pub replace_steps : ReprovesReading s t i label (map (recited_step s.setting.slots j k) kept) → ReadsFor s0 t (Replace label old new)
  replace_steps reads =
      since_then (OfCommand s0 (Replace label old new)) before on
      (since_before (OfCommand s0 (Replace label old new)) s0 s t known.looks
      (λ slots st lib c. Touches slots st lib (Replace label old new) c) (λ st lib c is. inr (inr (inr (inr is)))) on
      (replace_reads s0 s i j k label old new kept known t reads))

module _ {O : Type 0} (s0 s1 s2 s3 : Sight O) (label old new : List ℕ) (first : Looks s0 s1) (second : Looks s1 s2) (third : Looks s2 s3)
    (reads1 : ReadsWhere (IsOfLook s0.setting.slots label) s0 s1) (reads2 : ReadsWhere (IsOfLook s1.setting.slots old) s1 s2)
    (reads3 : ReadsWhere (IsOfLook s2.setting.slots new) s2 s3) where
  -- the three labels are looked for
  pub three_looks : ReadsFor s0 s3 (Replace label old new)
  three_looks =
      let x = Replace label old new in
      let one = first_look s0 s1 x label (λ st lib c is. inl (inl is)) reads1 in
      let two = since_then (OfCommand s0 x) one second.onward
      (since_where (OfCommand s0 x) s0 s1 s2 first (λ n. IsOfLook n old) (λ st lib c is. inl (inr (inl is))) reads2) in
      since_then (OfCommand s0 x) two third.onward
      (since_where (OfCommand s0 x) s0 s2 s3 (looks_trans s0 s1 s2 first second) (λ n. IsOfLook n new)
      (λ st lib c is. inl (inr (inr is))) reads3)

  -- and the proof of the theorem is read
  pub then_proof : (s4 : Sight O) (i : ℕ) → Looks s3 s4 → Finds s1 label (Some i) → ReadsWithin (λ c. c ≡ proof_cell i) s3 s4
      → ReadsFor s0 s4 (Replace label old new)
  then_proof s4 i fourth finds reads =
      let since = looks_trans s1 s2 s3 second third in
      then_cells s0 s3 s4 (Replace label old new) label i (looks_trans s0 s1 s3 first since) (finds_after s1 s3 label i since finds)
      three_looks fourth.onward (λ c. c ≡ proof_cell i) (λ st lib at c is. inr (inr (inr (inr (i, at, inl is))))) reads
