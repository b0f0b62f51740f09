-- From a library that is taken and told to what is done for an order to take.
use Rattle.std.proofs.Common.{Bool, ◌≡◌, ℕ, List, Option, inl, subst, Result}
use Rattle.choosing.specs.declared.wish.Wish.{Wish}
use Rattle.conduct.specs.Ending.{EndsBy}
use Rattle.conduct.specs.Takes.{IsTakeDone, IsTakeFollowed, IsWishOf}
use Rattle.conduct.proofs.Behind.{EndsBy-weaker}
use Rattle.outside.specs.Events.{Bytes, Event}

pub wished : {E : Type 0} (keyed : Bool) (path : Bytes) (words labels : List Bytes) (from to : Option Bytes) (w : Wish) (es : List Event)
    (r : Result ℕ E)
    → words ≡ labels → IsWishOf words from to w → EndsBy (IsTakeFollowed keyed path w) es r
    → EndsBy (IsTakeDone keyed path labels from to) es r
wished keyed path words labels from to w es r same wish ends =
    EndsBy-weaker (IsTakeFollowed keyed path w) (IsTakeDone keyed path labels from to) es r
    (λ status is. inl (w, subst (λ (ls : List Bytes). IsWishOf ls from to w) same wish, is)) ends
