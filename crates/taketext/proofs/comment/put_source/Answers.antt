use Rattle.std.proofs.Common.{◌∷◌, ◌++◌, ◌∙◌, [], ap, append_assoc, codes, length}
use Rattle.std.specs.Fmt.{decimal}
use Rattle.std.specs.List.{flat_map}
use Rattle.sha2.specs.Sha256.{sha256}
use Rattle.taketext.specs.Comments.{digits, shown_path}
use Rattle.taketext.proofs.Joined.{five_joined}
use Rattle.taketext.proofs.comment.put_source.Goals as goal

pub returns : goal.returns
returns c =
    let first = codes "$( Taken by mmrefactor from " in
    let path = shown_path c.args.path.now in
    let number = decimal (length c.args.source.now) in
    let sum = flat_map digits (sha256 c.args.source.now) in
    let old = c.args.out.now.items in
    five_joined old first path (10 ∷ codes "   " ++ (number ++ codes " bytes, SHA-256 ")) sum (10 ∷ []) _ _ _ _ c.push.new.self.items
    c.in_ok-extend_from_slice.ensures.items c.in_ok-put_path.ensures c.in_ok-put_size.ensures
    (rw c.digest-digest.ensures at c.in_ok-put_digits.ensures) c.in_ok-push.ensures.items
    ∙ ap (λ x. old ++ (first ++ (path ++ (10 ∷ codes "   " ++ x)))) (append_assoc number (codes " bytes, SHA-256 ") (sum ++ 10 ∷ []))
