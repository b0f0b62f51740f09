-- Why the system refuses something, by the kind of its error (POSIX.1-2017, "Error Numbers"), and how that is told.
use Rattle.std.specs.Prelude.{[], ◌++◌, codes}
use Rattle.std.specs.declared.io.ErrorKind.{ErrorKind}
use Rattle.std.specs.declared.io.ErrorKind.TheVariants as kind
use Rattle.outside.specs.declared.reason.Reason.{Reason}
use Rattle.outside.specs.declared.reason.Reason.TheVariants as reason
use Rattle.outside.specs.Events.{Bytes}

-- the reason that is told for a kind of error; none for all other kinds
abbrev pub reason_by : ErrorKind → Reason
reason_by kind.NotFound = reason.NoSuchFile
reason_by kind.PermissionDenied = reason.NotPermitted
reason_by kind.IsADirectory = reason.IsFolder
reason_by kind.NotADirectory = reason.IsNoFolder
reason_by kind.StorageFull = reason.NoSpace
reason_by kind.QuotaExceeded = reason.NoSpace
reason_by kind.ReadOnlyFilesystem = reason.ReadOnly
reason_by kind.InvalidFilename = reason.LongName
reason_by kind.TooManyLinks = reason.ManyLinks
reason_by kind.FilesystemLoop = reason.LinksInCircle
reason_by kind.AlreadyExists = reason.NameTaken
reason_by kind.FileTooLarge = reason.TooLarge
reason_by kind.ResourceBusy = reason.InUse
reason_by kind.ExecutableFileBusy = reason.InUse
reason_by kind.BrokenPipe = reason.ClosedPipe
reason_by _ = reason.Untold

-- how a reason is told behind what can't be done
abbrev pub because : Reason → Bytes
because reason.NoSuchFile = codes ": no such file"
because reason.NotPermitted = codes ": not permitted"
because reason.IsFolder = codes ": is a folder"
because reason.IsNoFolder = codes ": is no folder"
because reason.NoSpace = codes ": no space is left"
because reason.ReadOnly = codes ": the file system is read-only"
because reason.LongName = codes ": the name is too long"
because reason.ManyLinks = codes ": too many links"
because reason.LinksInCircle = codes ": the links lead in a circle"
because reason.NameTaken = codes ": the name is taken"
because reason.TooLarge = codes ": the file gets too large"
because reason.InUse = codes ": it is in use"
because reason.ClosedPipe = codes ": the pipe is closed"
because reason.Untold = []

-- a text can't be read, or written
abbrev pub unread_text : Reason → Bytes
unread_text why = codes "cannot read" ++ because why

abbrev pub unwritten_text : Reason → Bytes
unwritten_text why = codes "cannot write" ++ because why
