-- For which cells a transaction keeps values aside, command by command.
use Rattle.std.proofs.Common.{◌≡◌, ℕ, List, [], ◌∷◌, ◌++◌, Option, Some, None, refl, sym, ap, subst, ◌∙◌, ◌⊎◌, inl, inr, ⊎_elim, append_assoc}
use Rattle.library.specs.declared.command.Command.{Command}
use Rattle.ranges.specs.Pairs.{written}
use Rattle.cells.specs.Sight.{Sight, WasWritten, Onward}
use Rattle.cells.proofs.Sights.{onward_trans, matches_back}
use Rattle.cells.proofs.Keeping.{keeps_same}
use Rattle.commands.specs.Touches.{IsTouchedByOne, KeepsToAll, Passes, PassesAll}
use Rattle.groundwork.specs.Touches.{KeepsTo}

pub keeps_none : {O : Type 0} → (s : Sight O) → KeepsToAll s s []
keeps_none s = keeps_same (IsTouchedByOne s s []) s s refl

-- one command more is done
pub passes_more : {O : Type 0} → (s t u : Sight O) (cs : List Command) (x : Command) → PassesAll s cs t → Passes t u x
    → PassesAll s (cs ++ x ∷ []) u
passes_more s t u [] x is one = (u, subst (λ z. Passes z u x) is one, refl)
passes_more s t u (c ∷ cs) x (mid, first, rest) one = (mid, first, passes_more mid t u cs x rest one)

-- and keeps values aside for its cells
pub keeps_more : {O : Type 0} → (s t u : Sight O) (cs : List Command) → PassesAll s cs t → Onward t u → (x : Command)
    → KeepsToAll s t cs → KeepsTo t u x → KeepsToAll s u (cs ++ x ∷ [])
keeps_more s t u cs passes on x before keeps c was = by_cases (written c t.writes) refl
  where
    by_cases : (o : Option ℕ) → written c t.writes ≡ o → WasWritten s c ⊎ IsTouchedByOne s u (cs ++ x ∷ []) c
    by_cases (Some v) is =
        ⊎_elim (λ first. inl first)
        (λ (k : IsTouchedByOne s t cs c). inr (record {
          before = k.before;
          one = k.one;
          behind = k.behind ++ x ∷ [];
          all = ap (λ (l : List Command). l ++ x ∷ []) k.all ∙ append_assoc k.before (k.one ∷ k.behind) (x ∷ []);
          mid = k.mid;
          passes = k.passes;
          onward = onward_trans k.mid t u k.onward on;
          touches = λ st lib m v. k.touches st lib (matches_back t u st on m) v;
        }))
        (before c (v, is))
    by_cases None none =
        inr (record {
          before = cs;
          one = x;
          behind = [];
          all = refl;
          mid = t;
          passes = passes;
          onward = on;
          touches = λ st lib m v.
              ⊎_elim (λ w. let z : Some w.0 ≡ None = sym w.1 ∙ none in absurd cc) (λ is. is) (keeps st lib m v c was);
        })
