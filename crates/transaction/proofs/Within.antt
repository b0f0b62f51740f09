-- What a run of a transaction's commands asks for its commands may read, and what it keeps aside they may write.
use Rattle.std.proofs.Common.{◌≡◌, ◌⊎◌, ℕ, ◌++◌, Ok, List, [], ◌∷◌, refl, sym, ap, subst, ◌∙◌}
use Rattle.std.specs.Prelude.{All}
use Rattle.std.proofs.lemmas.List.Elements.{All-head, All-tail}
use Rattle.library.specs.declared.library.Ranked.{Ranked}
use Rattle.library.specs.declared.command.Command.{Command}
use Rattle.library.specs.Library.{Setting, Verifies}
use Rattle.library.specs.Fitting.{CommandFits}
use Rattle.library.specs.Edits.{edit}
use Rattle.librarylaws.proofs.Editing.{edit_verifies}
use Rattle.ranges.specs.Pairs.{Pairs}
use Rattle.cells.specs.State.{State, with_writes}
use Rattle.cells.specs.Shows.{Shows}
use Rattle.cells.specs.Sight.{Sight, WasWritten, Matches, Views, Onward, after}
use Rattle.cells.proofs.Sights.{onward_refl, onward_trans, matches_back, setting_kept}
use Rattle.groundwork.specs.Touches.{Touches}
use Rattle.commands.specs.Touches.{Passes, PassesAll, IsTouchedByOne}
use Rattle.groundwork.specs.Footprints.{IsReadBy}
use Rattle.commands.specs.Footprints.{IsReadByOne}
use Rattle.tlwords.proofs.Gathers.{all_front}
use Rattle.transaction.specs.Footprints.{IsCommandDone, AreDone, OfOne, MayRead, MayWrite}

passes_onward : {O : Type 0} → (s t : Sight O) (cs : List Command) → PassesAll s cs t → Onward s t
passes_onward s t [] is = subst (λ z. Onward s z) (sym is) (onward_refl s)
passes_onward s t (c ∷ cs) (mid, first, rest) = onward_trans s mid t first.onward (passes_onward mid t cs rest)

-- a state that may be the one under the run at last, and which showed a library at first
module _ {O : Type 0} (k : Setting) (st : State) (last : Sight O) (matches : Matches last st) where
  -- what a command leaves there
  record Leaves (s t : Sight O) (lib : List Ranked) (c : Command) : Type 0 where
    next : List Ranked
    done : IsCommandDone k st s.writes lib c t.writes next
    views : Views t st next

  leaves : (s t : Sight O) (lib : List Ranked) (c : Command) → s.setting ≡ k → Passes s t c → Onward t last → Views s st lib
      → CommandFits k.prelude c → Leaves s t lib c
  leaves s t lib c is p on views fit =
      let m = matches_back t last st on matches in
      let e = p.does.edits st lib m views in
      let same : t.setting ≡ k = setting_kept p.onward ∙ is in
      let edited = subst (λ (x : Setting). edit x lib c ≡ Ok (record { library = e.0; reply = p.reply })) is e.1 in
      record {
        next = e.0;
        done = record {
          reply = p.reply;
          edits = edited;
          keeps = subst (λ (x : Setting). (cell : ℕ) → WasWritten t cell → WasWritten s cell ⊎ Touches x.slots (after s st) lib c cell) is
              (p.keeps st lib m views);
          shows = subst (λ (x : Setting). Shows x.slots (after t st) e.0) same e.2;
        };
        views = record {
          matches = m;
          shows = e.2;
          verifies = subst (λ (x : Setting). Verifies x e.0) (sym same)
              (edit_verifies k lib c _ (subst (λ (x : Setting). Verifies x lib) is views.verifies) fit edited);
        };
      }

  -- what commands leave there, one after another
  record LeavesAll (s t : Sight O) (lib : List Ranked) (cs : List Command) : Type 0 where
    next : List Ranked
    done : AreDone k st s.writes lib cs t.writes next
    views : Views t st next

  leaves_all : (s t : Sight O) (lib : List Ranked) (cs : List Command) → s.setting ≡ k → PassesAll s cs t → Onward t last → Views s st lib
      → All (CommandFits k.prelude) cs → LeavesAll s t lib cs
  leaves_all s t lib [] is p on views fit =
      record { next = lib; done = (ap (λ (z : Sight O). z.writes) p, refl); views = subst (λ (z : Sight O). Views z st lib) (sym p) views }
  leaves_all s t lib (c ∷ cs) is (mid, first, rest) on views fit =
      let a = leaves s mid lib c is first (onward_trans mid t last (passes_onward mid t cs rest) on) views
      (All-head (CommandFits k.prelude) c cs fit) in
      let b = leaves_all mid t a.next cs (setting_kept first.onward ∙ is) rest on a.views (All-tail (CommandFits k.prelude) c cs fit) in
      record { next = b.next; done = (mid.writes, a.next, a.done, b.done); views = b.views }

  module _ (first : Sight O) (lib : List Ranked) (cs : List Command) (is : first.setting ≡ k) (blank : first.writes ≡ [])
      (views : Views first st lib)
      (fit : All (CommandFits k.prelude) cs) where
    front_left : (mid : Sight O) (before behind : List Command) (one : Command) → cs ≡ before ++ one ∷ behind → PassesAll first before mid
        → Onward mid last → LeavesAll first mid lib before
    front_left mid before behind one all passes on =
        leaves_all first mid lib before is passes on views
        (all_front (CommandFits k.prelude) before (one ∷ behind) (subst (λ (l : List Command). All (CommandFits k.prelude) l) all fit))

    slots_then : (mid : Sight O) (before : List Command) → PassesAll first before mid → mid.setting ≡ k
    slots_then mid before passes = setting_kept (passes_onward first mid before passes) ∙ is

    -- a cell that was read for one of the commands
    pub may_read : (cell : ℕ) → IsReadByOne first last cs cell → MayRead k st lib cs cell
    may_read cell r =
        let a = front_left r.mid r.before r.behind r.one r.all r.passes r.onward in
        record {
          before = r.before;
          one = r.one;
          behind = r.behind;
          all = r.all;
          aside = r.mid.writes;
          next = a.next;
          done = subst (λ (ps : Pairs). AreDone k st ps lib r.before r.mid.writes a.next) blank a.done;
          so = subst (λ (x : Setting). IsReadBy x.slots (after r.mid st) a.next r.one cell) (slots_then r.mid r.before r.passes)
              (r.reads st a.next matches a.views);
        }

    -- a cell for which one keeps a value aside
    pub may_write : (cell : ℕ) → IsTouchedByOne first last cs cell → MayWrite k st lib cs cell
    may_write cell r =
        let a = front_left r.mid r.before r.behind r.one r.all r.passes r.onward in
        record {
          before = r.before;
          one = r.one;
          behind = r.behind;
          all = r.all;
          aside = r.mid.writes;
          next = a.next;
          done = subst (λ (ps : Pairs). AreDone k st ps lib r.before r.mid.writes a.next) blank a.done;
          so = subst (λ (x : Setting). Touches x.slots (after r.mid st) a.next r.one cell) (slots_then r.mid r.before r.passes)
              (r.touches st a.next matches a.views);
        }
