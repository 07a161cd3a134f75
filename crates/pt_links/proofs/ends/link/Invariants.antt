use Rattle.pt_links.proofs.ends.link.Given as goal

abbrev pub ghosts-link_by : goal.ghosts-link_by
ghosts-link_by a = record { limits = a.bounds }
