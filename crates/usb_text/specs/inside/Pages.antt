-- A text on its way to a writer, by a page that is passed on where it is full.
use Rattle.std.specs.Prelude.{◌≡◌, ℕ, List, ◌++◌, true, count_by}
use Rattle.std.specs.Io.KnownBytes.{Appends}
use Rattle.usb_text.specs.Lines.{is_line_feed}
use Rattle.usb_text.specs.Output.{Held}
use Rattle.usb_text.specs.Written.{is_whole}

-- The text was put at the end of a page, of which the writer gained a prefix; the page holds the rest.
pub record Puts (old new : Held) (page rest text : List ℕ) : Type 0 where
  pub front : List ℕ
  pub parts : page ++ text ≡ front ++ rest
  pub written : Appends old new front

-- Of a text these lines have ended, and no line feed is behind them.
pub record EndedLines (text lines : List ℕ) : Type 0 where
  pub begun : List ℕ
  pub parts : text ≡ lines ++ begun
  pub none : count_by is_line_feed begun ≡ 0
  pub whole : is_whole lines ≡ true
