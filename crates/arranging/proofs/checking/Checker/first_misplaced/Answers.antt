use Rattle.std.proofs.Common.{ℕ, ◌<◌, ◌+◌, List, All, take, length, get_or, sym, subst}
use Rattle.std.proofs.lemmas.List.{take_all, take_more}
use Rattle.std.proofs.lemmas.List.Elements.{All-push}
use Rattle.arranging.specs.Places.{MayCome}
use Rattle.arranging.proofs.Known.{comes_free}
use Rattle.arranging.proofs.checking.Checker.first_misplaced.Goals as goal

all_more : {A : Type 0} (P : A → Type 0) (xs : List A) (i : ℕ) (x : A) → i < length xs → All P (take i xs) → P (get_or xs i x)
    → All P (take (i + 1) xs)
all_more P xs i x lt all one = subst (All P) (sym (take_more xs i x lt)) (All-push P (take i xs) (get_or xs i x) all one)

pub loop-number-preserved : goal.loop-number-preserved
loop-number-preserved c = λ e source old known all.
    all_more (MayCome e old) c.args.comings.now c.loop-number.number _ c.loop-number-test.true
    (c.loop-number.invariant e source old known all)
    (comes_free e old _ (c.is_free.ensures e source old known c.if-not-is_free.false)
    (c.is_from.ensures e source old known c.if-not-is_from.false) (c.is_under.ensures e source old known all c.if-not-is_under.false))

pub returns-clause-all : goal.returns-clause-all
returns-clause-all c = λ e source old known all.
    subst (All (MayCome e old)) (take_all c.loop-number.number c.args.comings.now c.loop-number-test.false)
    (c.loop-number.invariant e source old known all)
