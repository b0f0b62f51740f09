-- What one session learns of another.
use Rattle.std.proofs.Common.{◌≡◌, ℕ, List, refl, sym, ap, subst, ◌∙◌}
use Rattle.tlwords.specs.Seen.{Agree}
use Rattle.tlwords.specs.Calls.{Learns as WordsLearn}
use Rattle.lawful.specs.Lawful.{library_terms}
use Rattle.lawful.proofs.Standing.{other_calls_agree}
use Rattle.lending.specs.Lent.{Pass, ExceedsRoom}
use Rattle.transaction.specs.Members.{Member, IsMember}
use Rattle.transaction.specs.Looks.{SessionsLearn}
use Rattle.transaction.specs.Tries.{IsLaterPass}
use Rattle.transaction.proofs.Staying.{pass_on, still_member, goes_on}

module _ (m o : Member) (k j : Pass) (is : IsMember m) (other : IsMember o) (learnt : WordsLearn library_terms m.known o.known k j) where
  own_later : IsLaterPass m.known k
  own_later = record {
    home = ap (λ (z : Pass). z.home) learnt.is;
    name = ap (λ (z : Pass). z.name) learnt.is;
    grows = learnt.own;
    full = λ p e. ap (λ (z : Pass). z.full) learnt.is ∙ e;
    exceeds = λ was. subst ExceedsRoom (sym learnt.is) was;
    knows = learnt.knows;
  }

  other_later : IsLaterPass o.known j
  other_later = record {
    home = ap (λ (z : Pass). z.home) learnt.other_is;
    name = ap (λ (z : Pass). z.name) learnt.other_is;
    grows = learnt.other;
    full = λ p e. ap (λ (z : Pass). z.full) learnt.other_is ∙ e;
    exceeds = λ was. subst ExceedsRoom (sym learnt.other_is) was;
    knows = learnt.other_knows;
  }

  own_none : k.drawn ≡ m.known.drawn
  own_none = ap (λ (z : Pass). z.drawn) learnt.is

  other_none : j.drawn ≡ o.known.drawn
  other_none = ap (λ (z : Pass). z.drawn) learnt.other_is

  base : k.home.base ≡ m.known.home.base
  base = ap (λ (z : Pass). z.home.base) learnt.is

  pub own_stays : IsMember (record m { known = k })
  own_stays = still_member m k m.staged m.lacked_room is own_later own_none

  pub other_stays : IsMember (record o { known = j })
  other_stays = still_member o j o.staged o.lacked_room other other_later other_none

  pub session_learns : SessionsLearn m o (record m { known = k }) (record o { known = j })
  session_learns = record {
    own = goes_on m k m.staged m.lacked_room is own_later own_none;
    other_own = goes_on o j o.staged o.lacked_room other other_later other_none;
    told = learnt.told;
    kept = record { mine = ap (λ (z : Pass). z.mine) learnt.is; drawn = own_none };
    other_kept = record { mine = ap (λ (z : Pass). z.mine) learnt.other_is; drawn = other_none };
    agree = other_calls_agree m.given k o.known.mine (pass_on m.given m.known k own_later.home is.on) learnt.knows
        (subst (λ (b : List ℕ). Agree library_terms m.given b k.seen o.known.mine) (sym base) (learnt.calls m.given is.on.0));
    apart = learnt.apart;
    staged = (refl, refl);
    taken = (ap (λ (z : Pass). z.taken) learnt.is, ap (λ (z : Pass). z.taken) learnt.other_is);
    full = (ap (λ (z : Pass). z.full) learnt.is, ap (λ (z : Pass). z.full) learnt.other_is);
  }
