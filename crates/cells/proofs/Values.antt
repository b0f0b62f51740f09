-- Values of cells where one is written, and which cells are not range cells.
use Rattle.std.proofs.Common.{◌≡◌, ◌≢◌, ℕ, refl}
use Rattle.std.specs.Prelude.{◌==◌}
use Rattle.std.proofs.lemmas.Bool.{cond-true, cond-false, eq-eqb, ne_eqb}
use Rattle.cells.specs.State.{State, with_value}

pub value_there : (cell v : ℕ) (st : State) → (with_value cell v st).value cell ≡ v
value_there cell v st = cond-true (cell == cell) v (st.value cell) (eq-eqb cell cell refl)

pub value_elsewhere : (cell v : ℕ) (st : State) (c : ℕ) → c ≢ cell → (with_value cell v st).value c ≡ st.value c
value_elsewhere cell v st c ne = cond-false (c == cell) v (st.value c) (ne_eqb c cell ne)
