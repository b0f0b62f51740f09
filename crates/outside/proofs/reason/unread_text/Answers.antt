use Rattle.std.proofs.Common.{ap, sym}
use Rattle.outside.specs.Reasons.{unread_text}
use Rattle.outside.proofs.reason.unread_text.Goals as goal

pub returns-in-NoSuchFile : goal.returns-in-NoSuchFile
returns-in-NoSuchFile c = ap unread_text (sym c.in-NoSuchFile.is)

pub returns-in-NotPermitted : goal.returns-in-NotPermitted
returns-in-NotPermitted c = ap unread_text (sym c.in-NotPermitted.is)

pub returns-in-IsFolder : goal.returns-in-IsFolder
returns-in-IsFolder c = ap unread_text (sym c.in-IsFolder.is)

pub returns-in-IsNoFolder : goal.returns-in-IsNoFolder
returns-in-IsNoFolder c = ap unread_text (sym c.in-IsNoFolder.is)

pub returns-in-NoSpace : goal.returns-in-NoSpace
returns-in-NoSpace c = ap unread_text (sym c.in-NoSpace.is)

pub returns-in-ReadOnly : goal.returns-in-ReadOnly
returns-in-ReadOnly c = ap unread_text (sym c.in-ReadOnly.is)

pub returns-in-LongName : goal.returns-in-LongName
returns-in-LongName c = ap unread_text (sym c.in-LongName.is)

pub returns-in-ManyLinks : goal.returns-in-ManyLinks
returns-in-ManyLinks c = ap unread_text (sym c.in-ManyLinks.is)

pub returns-in-LinksInCircle : goal.returns-in-LinksInCircle
returns-in-LinksInCircle c = ap unread_text (sym c.in-LinksInCircle.is)

pub returns-in-NameTaken : goal.returns-in-NameTaken
returns-in-NameTaken c = ap unread_text (sym c.in-NameTaken.is)

pub returns-in-TooLarge : goal.returns-in-TooLarge
returns-in-TooLarge c = ap unread_text (sym c.in-TooLarge.is)

pub returns-in-InUse : goal.returns-in-InUse
returns-in-InUse c = ap unread_text (sym c.in-InUse.is)

pub returns-in-ClosedPipe : goal.returns-in-ClosedPipe
returns-in-ClosedPipe c = ap unread_text (sym c.in-ClosedPipe.is)
