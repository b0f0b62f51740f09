-- Scripts whose ranks are raised: they are within the same limits, and where they are raised by nothing they are as they were.
use Rattle.std.proofs.Common.{◌≡◌, ◌∙◌, ◌≤◌, ◌+◌, ℕ, List, map, refl, ap, arith}
use Rattle.std.specs.Prelude.{All, nat_le}
use Rattle.std.proofs.lemmas.Bool.{cond-true, cond_both, leb-true, le-leb}
use Rattle.std.proofs.lemmas.List.Elements.{All-map, All-weaker}
use Rattle.std.proofs.lemmas.List.Folds.{map_fixed}
use Rattle.mmsyntax.specs.Tables.{Tables}
use Rattle.library.specs.Library.{highest_rank}
use Rattle.library.specs.Fitting.{CommandFits}
use Rattle.library.specs.declared.command.Command.{Command}
use Rattle.library.specs.declared.command.Command.TheVariants.{Add, Reprove, Replace, Rename, Move, Delete, Show, List as ListAll}
use Rattle.standins.specs.StandIns.{Scripts, raised, raised_command, raised_rank}

-- ---- ranks

rank_within : (by rank : ℕ) → raised_rank by rank ≤ highest_rank
rank_within by rank =
    cond_both (nat_le (rank + by) highest_rank) (rank + by) highest_rank (λ r. r ≤ highest_rank) (leb-true (rank + by) highest_rank)
    (λ _. omega arith)

rank_same : (rank : ℕ) → rank ≤ highest_rank → raised_rank 0 rank ≡ rank
rank_same rank within = cond-true (nat_le (rank + 0) highest_rank) (rank + 0) highest_rank (le-leb _ _ (omega arith)) ∙ omega arith

-- ---- commands

command_fits : (t : Tables) (by : ℕ) (c : Command) → CommandFits t c → CommandFits t (raised_command by c)
command_fits t by (Add rank a) fits = (rank_within by rank, fits.1)
command_fits t by (Move label rank) fits = rank_within by rank
command_fits t by (Reprove label steps) fits = fits
command_fits t by (Replace label old new) fits = fits
command_fits t by (Rename old new) fits = fits
command_fits t by (Delete label) fits = fits
command_fits t by (Show label) fits = fits
command_fits t by ListAll fits = fits

command_same : (t : Tables) (c : Command) → CommandFits t c → raised_command 0 c ≡ c
command_same t (Add rank a) fits = ap (λ r. Add r a) (rank_same rank fits.0)
command_same t (Move label rank) fits = ap (λ r. Move label r) (rank_same rank fits)
command_same t (Reprove label steps) fits = refl
command_same t (Replace label old new) fits = refl
command_same t (Rename old new) fits = refl
command_same t (Delete label) fits = refl
command_same t (Show label) fits = refl
command_same t ListAll fits = refl

-- ---- scripts

all_mapped : {A : Type 0} (P : A → Type 0) (f : A → A) → ((x : A) → P x → P (f x)) → (xs : List A) → All P xs → All P (map f xs)
all_mapped P f keeps xs h = All-map P f xs (All-weaker P (λ x. P (f x)) keeps xs h)

all_same : {A : Type 0} (P : A → Type 0) (f : A → A) → ((x : A) → P x → f x ≡ x) → (xs : List A) → All P xs → map f xs ≡ xs
all_same P f same xs h = map_fixed f xs (All-weaker P (λ x. f x ≡ x) same xs h)

-- they are within the limits
pub raised_fit : (t : Tables) (by : ℕ) (scripts : Scripts) → All (All (All (CommandFits t))) scripts
    → All (All (All (CommandFits t))) (raised by scripts)
raised_fit t by scripts h =
    let fits = CommandFits t in
    let raise = raised_command by in
    all_mapped (All (All fits)) (map (map raise))
    (all_mapped (All fits) (map raise) (all_mapped fits raise (command_fits t by))) scripts h

-- by nothing
pub raised_none : (t : Tables) (scripts : Scripts) → All (All (All (CommandFits t))) scripts → raised 0 scripts ≡ scripts
raised_none t scripts h =
    let fits = CommandFits t in
    let raise = raised_command 0 in
    all_same (All (All fits)) (map (map raise)) (all_same (All fits) (map raise) (all_same fits raise (command_same t))) scripts h
