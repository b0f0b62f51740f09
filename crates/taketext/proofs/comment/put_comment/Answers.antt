use Rattle.taketext.proofs.Joined.{five_joined}
use Rattle.taketext.proofs.comment.put_comment.Goals as goal

pub returns : goal.returns
returns c =
    five_joined _ _ _ _ _ _ _ _ _ _ c.extend_from_slice.new.self.items c.in_ok-put_source.ensures c.in_ok-put_wish.ensures
    (rw c.as_slice.ensures.value at c.in_ok-put_names.ensures) (rw c.as_slice-2.ensures.value at c.in_ok-put_axioms.ensures)
    c.in_ok-extend_from_slice.ensures.items
