-- A run on cells is lawful: one of commands, and one that looks at the library.
use Rattle.std.proofs.Common.{◌≡◌, Bool, true, false, List, [], Ok, Err, refl, sym, ap, subst, ◌∙◌}
use Rattle.library.specs.declared.library.Ranked.{Ranked}
use Rattle.library.specs.Library.{Setting, Verifies}
use Rattle.library.specs.Transactions.{apply, has_edit}
use Rattle.ranges.specs.Pairs.{Pairs, written}
use Rattle.cells.specs.State.{State, with_writes}
use Rattle.cells.specs.Shows.{Shows}
use Rattle.cells.specs.Sight.{Sight, Suits, Matches, Views, Onward, after}
use Rattle.cells.proofs.Sights.{onward_refl, matches_back, setting_kept}
use Rattle.cells.specs.Answers.{WritesIfEdit}
use Rattle.lawful.specs.declared.notes.Given.{Given}
use Rattle.lawful.specs.Lawful.{setting_given, sight_over}
use Rattle.lawful.specs.Laws.{RunsAreLawful, LooksAreLawful}

-- where nothing is kept aside at the end, no command was an edit
no_edit : {O : Type 0} → (edits : Bool) (old new : Sight O) → WritesIfEdit edits old new → new.writes ≡ [] → edits ≡ false
no_edit true old new some none =
    let at = some.1.1 in
    let nothing = ap (written some.0) none in
    cc
no_edit false old new looks none = refl

module _ {O : Type 0} (g : Given) (old new : Sight O) (setting : old.setting ≡ setting_given g) (blank : old.writes ≡ [])
    (onward : Onward old new) (writes : Pairs) where
  -- what suits the run at its end matches it
  matches_new : (st : State) (lib : List Ranked) → Suits (sight_over g new.ranges new.reads writes) st lib → Matches new st
  matches_new st lib s = record { store = s.matches.store; has = s.matches.has; reads = s.matches.reads }

  -- and was viewed by it at its beginning
  views_old : (st : State) (lib : List Ranked) → Suits (sight_over g new.ranges new.reads writes) st lib → Views old st lib
  views_old st lib s =
      record {
        matches = matches_back old new st onward (matches_new st lib s);
        shows = subst (λ (x : Setting). Shows x.slots (after old st) lib) (sym setting)
            (subst (λ (ps : Pairs). Shows g.slots (with_writes st ps) lib) (sym blank) s.shows);
        verifies = subst (λ (x : Setting). Verifies x lib) (sym setting) s.verifies;
      }

pub runs_are_lawful : {O : Type 0} → RunsAreLawful O
runs_are_lawful g old new commands setting blank onward fit = (
  λ replies does. (
    fit,
    no_edit (has_edit commands.value) old new does.writes,
    λ st lib s.
        let d = does.applies st lib (matches_new g old new setting blank onward new.writes st lib s)
        (views_old g old new setting blank onward new.writes st lib s) in
        record {
          next = d.0;
          applied =
              subst (λ (x : Setting). apply x lib commands.value ≡ Ok (record { library = d.0; replies = replies.value })) setting d.1;
          shows = subst (λ (x : Setting). Shows x.slots (after new st) d.0) (setting_kept onward ∙ setting) d.2;
        },
  ),
  λ refused refuses. (
    fit,
    refl,
    λ st lib s.
        subst (λ (x : Setting). apply x lib commands.value ≡ Err refused.value) setting
        (refuses st lib (matches_new g old new setting blank onward [] st lib s) (views_old g old new setting blank onward [] st lib s)),
  ),
)

pub looks_are_lawful : {O : Type 0} → LooksAreLawful O
looks_are_lawful g s library setting blank listed told =
    (listed, refl, λ st lib suits. told st lib (views_old g s s setting blank (onward_refl s) [] st lib suits))
