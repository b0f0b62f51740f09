use Rattle.std.proofs.Common.{◌∙◌, ◌≡◌, All, List, [], ◌∷◌, ◌++◌, subst, sym}
use Rattle.std.proofs.lemmas.List.Elements.{All-push}
use Rattle.transaction.specs.Members.{IsSessionOf, Member}
use Rattle.calls.proofs.whole.is_one_library.Goals as goal

-- what holds of a list and of two more holds behind the two pushes
both_more : (P : Member → Type 0) (xs ys zs : List Member) (x y : Member) → ys ≡ xs ++ x ∷ [] → zs ≡ ys ++ y ∷ [] → All P xs → P x
    → P y → All P zs
both_more P xs ys zs x y first second all one other =
    subst (All P) (sym second) (All-push P ys y (subst (All P) (sym first) (All-push P xs x all one)) other)

-- the two sessions are still the library's, behind what they learnt and looked at
pub finish-requires : goal.finish-requires
finish-requires g c =
    both_more (IsSessionOf c.in_ok-library.library) c.last_of-2.new.sessions.items c.push.new.self.items c.push-2.new.self.items
    c.snapshot.new.self c.learn.new.other c.in_ok-push.ensures.items c.in_ok-push-2.ensures.items c.last_of-2.ensures.others
    (c.snapshot.ensures.later.home ∙ (c.learn.ensures.own.home ∙ c.both_submit-one.ensures.one))
    (c.learn.ensures.other_own.home ∙ c.both_submit-one.ensures.other)
