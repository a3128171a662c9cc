-- Linux's number of why a file was not read.
use Rattle.std.specs.Prelude.{ℤ, pos}
use Rattle.files.specs.declared.Unread.{Unread}
use Rattle.files.specs.declared.Unread.TheVariants.{Missing, NotAllowed, Directory, LongName, NotUtf8, Changed, Other}

abbrev pub errno_of : Unread → ℤ
errno_of Missing = pos 2
errno_of NotAllowed = pos 13
errno_of Directory = pos 21
errno_of LongName = pos 36
errno_of NotUtf8 = pos 84
errno_of Changed = pos 0
errno_of (Other errno) = errno
