-- That `put_front` ends: what is counted falls.
use Rattle.sourcewriting.proofs.letters.+put_front.Given as goal

abbrev pub decreases-put_front : goal.decreases-put_front
decreases-put_front l = l.front
