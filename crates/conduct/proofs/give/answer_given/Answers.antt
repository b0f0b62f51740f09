use Rattle.std.proofs.Common.{ap, ℕ, List, map}
use Rattle.std.specs.Prelude.{is_some, Vec}
use Rattle.std.specs.declared.alloc.Global.{Global}
use Rattle.conduct.proofs.GivenBack.{given_told, only_three}
use Rattle.conduct.proofs.give.answer_given.Goals as goal

pub returns-in-Ok : goal.returns-in-Ok
returns-in-Ok g c =
    let told = c.tell_given.ensures in
    let items = λ (ts : List (Vec ℕ Global)). map (λ (t : Vec ℕ Global). t.items) ts in
    let texts = ap items (only_three c.args.texts.now c.index-texts-0.result c.index-texts-1.result c.index-texts-2.result c.requires
    c.index-texts-0.is c.index-texts-1.is c.index-texts-2.is) in
    let answer = rw c.as_slice-history.ensures.value at
    (rw c.as_slice-library.ensures.value at (rw c.as_slice-source.ensures.value at c.in-Ok.ensures)) in
    (told.0, told.1, given_told (is_some c.args.keys) _ _ _ _ _ c.in-Ok.told told.0 c.tell_given.result texts answer told.2)
