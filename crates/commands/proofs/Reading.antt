-- Which cells a command reads, from what its calls read; and a transaction, command by command.
use Rattle.std.proofs.Common.{◌≡◌, ℕ, List, [], ◌∷◌, ◌++◌, Option, Some, None, refl, ap, ◌∙◌, ◌⊎◌, inl, inr, ⊎_elim, append_assoc}
use Rattle.std.specs.Prelude.{◌==◌}
use Rattle.std.proofs.lemmas.Bool.{cases_Bool}
use Rattle.std.proofs.lemmas.Bool.Decides.{Decides-eqb}
use Rattle.library.specs.declared.command.Command.{Command}
use Rattle.ranges.specs.Pairs.{Pairs}
use Rattle.ranges.specs.Ranges.{Has}
use Rattle.cells.specs.Sight.{Sight, WasAsked, Onward}
use Rattle.cells.proofs.Sights.{onward_trans, matches_back}
use Rattle.commands.specs.Touches.{PassesAll}
use Rattle.commands.specs.Footprints.{IsReadByOne, ReadsForAll}
use Rattle.groundwork.specs.Footprints.{ReadsFor}

-- ---- whether a cell was asked for

has_pair : (c : ℕ) (reads : Pairs) → ((v : ℕ) × Has (c, v) reads) ⊎ ((v : ℕ) → Has (c, v) reads → ⊥)
has_pair c [] = inr (λ v h. h)
has_pair c (r ∷ rs) =
    elim (cases_Bool (c == r.0)) [
      | inl same ↦ inl (r.1, inl (λ i. ((Decides-eqb c r.0).0 same i, r.1)))
      | inr other ↦
          elim (has_pair c rs) [
            | inl later ↦ inl (later.0, inr later.1)
            | inr none ↦ inr (λ v h. ⊎_elim (λ first. let so =
                (Decides-eqb c r.0).1 (ap (λ (p : ℕ × ℕ). p.0) first) in absurd cc) (λ more. none v more) h)
          ]
    ]

stopped_at : (c : ℕ) (o : Option ℕ) → (o ≡ Some c) ⊎ (o ≡ Some c → ⊥)
stopped_at c None = inr (λ e. absurd cc)
stopped_at c (Some d) =
    elim (cases_Bool (d == c)) [
      | inl same ↦ inl (ap (λ (n : ℕ). Some n) ((Decides-eqb d c).0 same))
      | inr other ↦ inr (λ e. let is : d ≡ c = cc in let so = (Decides-eqb d c).1 is in absurd cc)
    ]

was_asked : {O : Type 0} → (s : Sight O) (c : ℕ) → WasAsked s c ⊎ (WasAsked s c → ⊥)
was_asked s c =
    elim (has_pair c s.reads) [
      | inl read ↦ inl (inl read)
      | inr unread ↦
          elim (stopped_at c s.halted) [
            | inl stop ↦ inl (inr stop)
            | inr none ↦ inr (λ was. ⊎_elim (λ read. unread read.0 read.1) none was)
          ]
    ]

-- ---- command by command

pub reads_none : {O : Type 0} → (s : Sight O) → ReadsForAll s s []
reads_none s = record { asked = λ c was. inl was }

-- one command more, with others behind it that are not begun
pub reads_more : {O : Type 0} → (s t u : Sight O) (cs : List Command) → PassesAll s cs t → Onward t u → (x : Command)
    (rest : List Command) → ReadsForAll s t cs → ReadsFor t u x → ReadsForAll s u (cs ++ x ∷ rest)
reads_more s t u cs passes on x rest before reads = record { asked = λ c was. of c was (was_asked t c) }
  where
    of : (c : ℕ) → WasAsked u c → WasAsked t c ⊎ (WasAsked t c → ⊥) → WasAsked s c ⊎ IsReadByOne s u (cs ++ x ∷ rest) c
    of c was (inl early) =
        ⊎_elim (λ first. inl first)
        (λ (k : IsReadByOne s t cs c). inr (record {
          before = k.before;
          one = k.one;
          behind = k.behind ++ x ∷ rest;
          all = ap (λ (l : List Command). l ++ x ∷ rest) k.all ∙ append_assoc k.before (k.one ∷ k.behind) (x ∷ rest);
          mid = k.mid;
          passes = k.passes;
          onward = onward_trans k.mid t u k.onward on;
          reads = λ st lib m v. k.reads st lib (matches_back t u st on m) v;
        }))
        (before.asked c early)
    of c was (inr not_yet) =
        inr (record {
          before = cs;
          one = x;
          behind = rest;
          all = refl;
          mid = t;
          passes = passes;
          onward = on;
          reads = λ st lib m v. ⊎_elim (λ w. absurd (not_yet w)) (λ is. is) ((reads st lib m v).asked c was);
        })
