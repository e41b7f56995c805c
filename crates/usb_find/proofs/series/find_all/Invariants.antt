use Rattle.usb_find.proofs.series.find_all.Given as goal

-- the ledger of the looks
abbrev pub ghosts-find_with : goal.ghosts-find_with
ghosts-find_with a = record { name = a.blank.name; parts = a.blank.parts }
