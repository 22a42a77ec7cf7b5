mod Shown
mod Found
mod Sights
mod Keeping
mod Totals
