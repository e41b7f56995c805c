-- The end of a file.
use Rattle.std.proofs.Common.{◌≡◌, ℕ, zero, suc, ◌<◌, ◌≤◌, List, [], ◌∷◌, ◌++◌, length, drop, refl, ◌∙◌, arith}
use Rattle.std.proofs.lemmas.List.{append-nil}
use Rattle.usb_file_data.specs.declared.file.DescriptorFile.{DescriptorFile}
use Rattle.usb_file_data.specs.File.{File, file_bytes}
use Rattle.usb_file_data.specs.declared.fault.FileWhy.{FileWhy}
use Rattle.usb_file_data.specs.declared.fault.FileWhy.TheVariants as files
use Rattle.usb_file_data.specs.Front.{IsFront}
use Rattle.usb_file_data.specs.FileFaults.{the_end, EndIsNext, PartFaulty, FileFaulty, ReadRefused}
use Rattle.usb_fields.specs.Bytes.{AreBytes}

-- a prefix of a file after which the file must end, and nothing else
pub is_file : (f : DescriptorFile) (b : List ℕ) → EndIsNext f [] → IsFront f → b ≡ file_bytes f ++ [] → AreBytes b → File f b
is_file f b next front parts fits = record {
  bytes = parts ∙ append-nil (file_bytes f);
  fits = fits;
  counts = next.counts;
  kinds = front.kinds;
  layouts = front.layouts;
  texts = next.texts;
}

pub drop_all : (n : ℕ) (b : List ℕ) → length b ≤ n → drop n b ≡ []
drop_all zero [] h = refl
drop_all zero (x ∷ b) h = absurd (omega arith)
drop_all (suc n) [] h = refl
drop_all (suc n) (x ∷ b) h = drop_all n b (omega arith)

-- bytes are left at the end
pub bytes_left : (n : ℕ) (b : List ℕ) → n < length b → PartFaulty the_end (drop n b) 0 files.Trailing
bytes_left zero [] h = absurd (omega arith)
bytes_left zero (x ∷ b) h = (refl, refl)
bytes_left (suc n) [] h = absurd (omega arith)
bytes_left (suc n) (x ∷ b) h = bytes_left n b (omega arith)

-- the bytes of a file are refused out of memory alone
pub only_memory : (b : List ℕ) → ((b : List ℕ) (f : DescriptorFile) (p : ℕ) (w : FileWhy) → File f b → FileFaulty b p w → ⊥)
    → (f : DescriptorFile) (at : ℕ) (why : FileWhy) → ReadRefused b at why → File f b → why ≡ files.Memory
only_memory b not_both f at files.Memory h file = refl
only_memory b not_both f at why h file = absurd (not_both b f at _ file h)
