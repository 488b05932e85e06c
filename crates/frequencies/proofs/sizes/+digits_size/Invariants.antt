use Rattle.frequencies.proofs.sizes.+digits_size.Given as goal

abbrev pub decreases-digits_size : goal.decreases-digits_size
decreases-digits_size l = l.most
