-- What plain cells show after a run over them.
use Rattle.std.proofs.Common.{◌≡◌, ◌≤◌, ℕ, length, List, [], All, refl, sym, ap, subst}
use mathlib.Core.Logic.{∥∥₁_map}
use Rattle.library.specs.declared.library.Ranked.{Ranked}
use Rattle.library.specs.declared.command.Command.{Command}
use Rattle.library.specs.declared.command.Reply.{Reply}
use Rattle.library.specs.Library.{Setting, Verifies, opening}
use Rattle.library.specs.Fitting.{CommandFits}
use Rattle.librarylaws.proofs.Editing.{apply_verifies}
use Rattle.librarylaws.proofs.Opening.{opening_verifies}
use Rattle.derivation.specs.Databases.{AllCheck}
use Rattle.mmsyntax.specs.Layout.{HasSpelling}
use Rattle.mmsyntax.specs.Tables.{Contents, Tables}
use Rattle.plaincells.specs.Opening.{CellsOpen}
use Rattle.plaincells.specs.declared.plain.PlainCells.{PlainCells}
use Rattle.cells.specs.State.{State}
use Rattle.cells.specs.Shows.{Shows}
use Rattle.cells.specs.Sight.{Views, Onward}
use Rattle.cells.specs.Answers.{DoesAll}
use Rattle.plaincells.specs.Plain.{plain_state, undone}
use Rattle.plaincells.specs.PlainViews.{cells_setting, cells_sight, first_state, now_state}
use Rattle.ranges.specs.Pairs.{Pairs}
use Rattle.cells.proofs.Sights.{matches_back, setting_kept}
use Rattle.plaincells.proofs.Opened.{first_matches, after_first, later_views}
use Rattle.trials.specs.InCells.{ShowsSomeNow}

-- what the cells showed before a run, its state views at first
views_before : (c d : PlainCells) (lib : List Ranked) → Onward (cells_sight c) (cells_sight d) → Shows c.slots (now_state c) lib
    → Verifies (cells_setting c) lib → Views (cells_sight c) (first_state d) lib
views_before c d lib onward shows verifies =
    (later_views c d (cells_sight c) lib shows.held (ap (λ (s : Setting). s.slots) (setting_kept onward)) refl refl onward.ranges
    (matches_back (cells_sight c) (cells_sight d) (first_state d) onward (first_matches d)) verifies (shows, refl)).0

-- where a run does its commands, the cells show some library then
pub done_shows_some : (c d : PlainCells) (cs : List Command) (replies : List Reply) → Onward (cells_sight c) (cells_sight d)
    → All (CommandFits c.prelude) cs → DoesAll (cells_sight c) (cells_sight d) cs replies → ShowsSomeNow c → ShowsSomeNow d
done_shows_some c d cs replies onward fits does shown =
    ∥∥₁_map shown (λ s.
    let r = does.applies (first_state d) s.0 (first_matches d) (views_before c d s.0 onward s.1 s.2) in (
      r.0,
      subst (λ (st : State). Shows d.slots st r.0) (after_first d) r.2,
      subst (λ (set : Setting). Verifies set r.0) (sym (setting_kept onward))
          (apply_verifies (cells_setting c) s.0 cs (record { library = r.0; replies = replies }) s.2 fits r.1),
    ))

-- cells that begin a run show some library
pub begun_shows : (c : PlainCells) → c.log.items ≡ [] → ShowsSomeNow c
begun_shows c none =
    ∥∥₁_map c.began (λ b. (
      b.0,
      subst (λ (log : Pairs). Shows c.slots (plain_state (undone c.values.items log) c.store.items c.ranges.items) b.0) none
          (b.1 c.full).shows,
      (b.1 c.full).verifies,
    ))

-- a database that opened in cells is shown as its opening library
pub opened_shows : (db : Contents) (slots room : ℕ) (made : PlainCells) → HasSpelling db → AllCheck db → 1 ≤ slots → slots ≤ 4096
    → length db.assertions ≤ slots → CellsOpen db slots room made → ShowsSomeNow made
opened_shows db slots room made spelled checks some few within o =
    ∣ (
      opening db,
      subst (λ n. Shows n (now_state made) (opening db)) (sym o.slots_are) o.shows.0,
      subst (λ (t : Tables). Verifies (record { prelude = t; slots = made.slots }) (opening db)) (sym o.prelude)
          (subst (λ n. Verifies (record { prelude = db.prelude; slots = n }) (opening db)) (sym o.slots_are)
          (opening_verifies db slots spelled checks some few within)),
    ) ∣₁
