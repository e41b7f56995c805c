use Rattle.usb_find.proofs.search.find.Given as goal

-- the ledger of the looks
abbrev pub ghosts-find_first : goal.ghosts-find_first
ghosts-find_first a = record { name = a.blank.name; parts = a.blank.parts }
