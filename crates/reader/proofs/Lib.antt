-- The mathematics of the code: Steps for one record, ReadingLaws for the loop.
mod Laws
mod Steps
mod ReadingLaws
